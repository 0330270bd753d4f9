use Rattle.std.proofs.Common.{◌≡◌, drop}
use Rattle.kp_symbolic.specs.View.{clauses_view}
use Rattle.kp_case_laws.specs.Narrowings.{are_never}
use Rattle.kp_unify.proofs.literals.are_never.Given as goal

abbrev pub invariant-loop-clause : goal.invariant-loop-clause
invariant-loop-clause l = are_never (clauses_view (drop l.clause-index l.clauses)) ≡ are_never (clauses_view l.clauses)
