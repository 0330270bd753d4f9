use Rattle.std.proofs.Common.{◌≡◌, map, drop}
use Rattle.std.specs.List.{flat_map}
use Rattle.kp_kore.specs.View.{sorted_variable_view}
use Rattle.kp_kore.specs.Instance.{is_named}
use Rattle.kp_symbolic.specs.States.{variables_for}
use Rattle.kp_symbolic.specs.Terms.{replacement_for}
use Rattle.kp_symbolic.specs.View.{replaced_view}
use Rattle.kp_literals.proofs.names.stands_for_one.Given as goal

abbrev pub invariant-loop-variable : goal.invariant-loop-variable
invariant-loop-variable l =
    is_named l.name (flat_map (λ x. variables_for x (replacement_for (map replaced_view l.replaced) x.name)) (map sorted_variable_view l.variables))
    ≡ is_named l.name (flat_map (λ x. variables_for x (replacement_for (map replaced_view l.replaced) x.name)) (map sorted_variable_view (drop l.variable-index l.variables)))
