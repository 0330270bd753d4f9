use Rattle.std.proofs.Common.{◌≡◌, ◌++◌, map}
use Rattle.kp_kore.specs.View.{sorted_variable_view}
use Rattle.kp_successors.proofs.member.add_all.Given as goal

abbrev pub invariant-loop-variable : goal.invariant-loop-variable
invariant-loop-variable l =
    map sorted_variable_view l.found.items ++ map sorted_variable_view l.variable-iterator.rest.items
    ≡ map sorted_variable_view l.fn.found.items ++ map sorted_variable_view l.fn.more.items
