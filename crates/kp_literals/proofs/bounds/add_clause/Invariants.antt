use Rattle.std.proofs.Common.{◌≡◌, ◌++◌, map, drop}
use Rattle.kp_literals.specs.Bounds.{difference_view, clause_bounds}
use Rattle.kp_literals.specs.Readings.{read_view}
use Rattle.kp_literals.proofs.bounds.add_clause.Given as goal

abbrev pub invariant-loop-literal : goal.invariant-loop-literal
invariant-loop-literal l =
    map difference_view l.bounds.items ++ clause_bounds (map read_view (drop l.literal-index l.clause))
    ≡ map difference_view l.fn.bounds.items ++ clause_bounds (map read_view l.clause)
