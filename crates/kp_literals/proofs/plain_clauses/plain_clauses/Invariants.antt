use Rattle.std.proofs.Common.{◌≡◌, ◌++◌, drop}
use Rattle.std.specs.List.{filter}
use Rattle.kp_symbolic.specs.Plain.{is_plain_clause}
use Rattle.kp_literals.specs.Readings.{clauses_view}
use Rattle.kp_literals.specs.Parts.{clauses_of, is_plain_read}
use Rattle.kp_literals.proofs.plain_clauses.plain_clauses.Given as goal

abbrev pub invariant-loop-clause : goal.invariant-loop-clause
invariant-loop-clause l =
    (clauses_view l.plain.items ++ filter is_plain_clause (clauses_view (drop l.clause-index l.clauses)) ≡ filter is_plain_clause (clauses_view l.clauses))
    × (clauses_of l.plain.items ++ filter is_plain_read (clauses_of (drop l.clause-index l.clauses)) ≡ filter is_plain_read (clauses_of l.clauses))
