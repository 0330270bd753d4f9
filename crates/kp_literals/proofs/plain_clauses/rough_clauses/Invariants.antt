use Rattle.std.proofs.Common.{◌≡◌, ◌++◌, not, map, drop}
use Rattle.std.specs.List.{filter}
use Rattle.kp_symbolic.specs.Plain.{is_plain_clause, literals_of}
use Rattle.kp_symbolic.specs.View as terms
use Rattle.kp_literals.specs.Readings.{clauses_view}
use Rattle.kp_literals.proofs.plain_clauses.rough_clauses.Given as goal

abbrev pub invariant-loop-clause : goal.invariant-loop-clause
invariant-loop-clause l =
    terms.clauses_view l.rough.items ++ map literals_of (filter (λ c. not (is_plain_clause c)) (clauses_view (drop l.clause-index l.clauses)))
    ≡ map literals_of (filter (λ c. not (is_plain_clause c)) (clauses_view l.clauses))
