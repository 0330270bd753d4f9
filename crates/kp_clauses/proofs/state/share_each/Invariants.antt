use Rattle.std.proofs.Common.{◌≡◌, ◌++◌, map}
use Rattle.kp_kore.specs.View.{sorted_variable_view}
use Rattle.kp_symbolic.specs.View.{variables_view}
use Rattle.kp_clauses.proofs.state.share_each.Given as goal

abbrev pub invariant-loop-variable : goal.invariant-loop-variable
invariant-loop-variable l =
    variables_view l.found.items ++ map sorted_variable_view l.variable-iterator.rest.items ≡ map sorted_variable_view l.fn.variables.items
