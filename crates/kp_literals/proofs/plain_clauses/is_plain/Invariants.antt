use Rattle.std.proofs.Common.{◌≡◌, map, drop}
use Rattle.kp_symbolic.specs.Plain.{is_plain_clause}
use Rattle.kp_literals.specs.Readings.{read_view}
use Rattle.kp_literals.proofs.plain_clauses.is_plain.Given as goal

abbrev pub invariant-loop-literal : goal.invariant-loop-literal
invariant-loop-literal l = is_plain_clause (map read_view l.clause) ≡ is_plain_clause (map read_view (drop l.literal-index l.clause))
