use Rattle.std.proofs.Common.{◌≡◌, ◌++◌, map, drop}
use Rattle.std.specs.List.{flat_map}
use Rattle.kp_symbolic.specs.States.{variables_for}
use Rattle.kp_symbolic.specs.Terms.{replacement_for}
use Rattle.kp_symbolic.specs.View.{replaced_view, variables_view}
use Rattle.kp_solving.proofs.substitute_variables.variables_under.Given as goal

abbrev pub invariant-loop-variable : goal.invariant-loop-variable
invariant-loop-variable l =
    variables_view l.found.items ++ flat_map (λ x. variables_for x (replacement_for (map replaced_view l.by) x.name)) (variables_view (drop l.variable-index l.variables))
    ≡ flat_map (λ x. variables_for x (replacement_for (map replaced_view l.by) x.name)) (variables_view l.variables)
