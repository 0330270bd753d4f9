use Rattle.std.proofs.Common.{◌≡◌, ◌++◌, map, drop}
use Rattle.std.specs.List.{filter}
use Rattle.kp_kore.specs.View.{sorted_variable_view}
use Rattle.kp_kore.specs.Instance.{is_named}
use Rattle.kp_symbolic.specs.View.{replaced_view}
use Rattle.kp_formulas.proofs.quotation.replaced_among.Given as goal

abbrev pub invariant-loop-one : goal.invariant-loop-one
invariant-loop-one l =
    map replaced_view l.found.items ++ filter (λ r. is_named r.name (map sorted_variable_view l.variables)) (map replaced_view (drop l.one-index l.replaced))
    ≡ filter (λ r. is_named r.name (map sorted_variable_view l.variables)) (map replaced_view l.replaced)
