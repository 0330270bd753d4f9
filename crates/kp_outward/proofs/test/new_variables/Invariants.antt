use Rattle.std.proofs.Common.{◌≡◌, [], ◌∷◌, ◌++◌, map, drop, string_bytes}
use Rattle.kp_kore.specs.View.{sorts_view}
use Rattle.kp_symbolic.specs.Writing.{new_variables}
use Rattle.kp_symbolic.specs.View.{variable_view}
use Rattle.kp_outward.proofs.test.new_variables.Given as goal

abbrev pub invariant-loop-sort : goal.invariant-loop-sort
invariant-loop-sort l =
    map variable_view l.found.items ++ new_variables (map string_bytes l.used.items) (sorts_view (drop l.sort-index l.sorts))
    ≡ new_variables (string_bytes l.name ∷ []) (sorts_view l.sorts)
