use Rattle.std.proofs.Common.{◌≡◌, ◌++◌, map, drop}
use Rattle.kp_literals.specs.Readings.{read_view}
use Rattle.kp_literals.proofs.plain_clauses.same_clause.Given as goal

abbrev pub invariant-loop-literal : goal.invariant-loop-literal
invariant-loop-literal l = (map read_view l.same.items ++ map read_view (drop l.literal-index l.clause) ≡ map read_view l.clause) × (l.same.items ++ drop l.literal-index l.clause ≡ l.clause)
