use Rattle.std.proofs.Common.{◌≡◌, ◌++◌, drop}
use Rattle.std.specs.List.{flat_map}
use Rattle.kp_kore.specs.Instance.{is_named}
use Rattle.kp_symbolic.specs.View.{variables_view}
use Rattle.kp_implies.specs.Printed.{only_if}
use Rattle.kp_implies.proofs.tellings.named_in.Given as goal

abbrev pub invariant-loop-variable : goal.invariant-loop-variable
invariant-loop-variable l =
    variables_view l.found.items ++ flat_map (λ x. only_if (is_named x.name (variables_view l.names)) x) (variables_view (drop l.variable-index l.left)) ≡ flat_map (λ x. only_if (is_named x.name (variables_view l.names)) x) (variables_view l.left)
