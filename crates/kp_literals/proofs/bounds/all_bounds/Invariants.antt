use Rattle.std.proofs.Common.{◌≡◌, ◌++◌, map, drop}
use Rattle.std.specs.List.{flat_map}
use Rattle.kp_literals.specs.Bounds.{difference_view, clause_bounds}
use Rattle.kp_literals.specs.Readings.{clauses_view}
use Rattle.kp_literals.proofs.bounds.all_bounds.Given as goal

abbrev pub invariant-loop-clause : goal.invariant-loop-clause
invariant-loop-clause l =
    map difference_view l.bounds.items ++ flat_map clause_bounds (clauses_view (drop l.clause-index l.clauses))
    ≡ flat_map clause_bounds (clauses_view l.clauses)
