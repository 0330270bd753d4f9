use Rattle.std.proofs.Common.{◌≡◌, ◌++◌, map, drop}
use Rattle.kp_kore.specs.View.{view}
use Rattle.kp_symbolic.specs.View.{variable_view}
use Rattle.kp_outward.specs.Parts.{variable_pattern}
use Rattle.kp_outward.proofs.test.variables_out.Given as goal

abbrev pub invariant-loop-variable : goal.invariant-loop-variable
invariant-loop-variable l =
    map view l.patterns.items ++ map (λ x. variable_pattern (variable_view x)) (drop l.variable-index l.variables) ≡ map (λ x. variable_pattern (variable_view x)) l.variables
