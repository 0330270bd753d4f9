use Rattle.std.proofs.Common.{◌≡◌, drop}
use Rattle.std.specs.List.{list_any, list_all}
use Rattle.kp_symbolic.specs.Plain.{has_form}
use Rattle.kp_literals.specs.Readings.{clauses_view}
use Rattle.kp_literals.proofs.plain_clauses.have_plain.Given as goal

abbrev pub invariant-loop-clause : goal.invariant-loop-clause
invariant-loop-clause l = list_all (λ c. list_any has_form c) (clauses_view l.clauses) ≡ list_all (λ c. list_any has_form c) (clauses_view (drop l.clause-index l.clauses))
