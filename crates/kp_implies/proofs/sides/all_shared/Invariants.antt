use Rattle.std.proofs.Common.{◌≡◌, ◌++◌, map, drop}
use Rattle.kp_kore.specs.View.{sorted_variable_view}
use Rattle.kp_symbolic.specs.View.{variables_view}
use Rattle.kp_implies.proofs.sides.all_shared.Given as goal

abbrev pub invariant-loop-variable : goal.invariant-loop-variable
invariant-loop-variable l = variables_view l.found.items ++ map sorted_variable_view (drop l.variable-index l.variables) ≡ map sorted_variable_view l.variables
