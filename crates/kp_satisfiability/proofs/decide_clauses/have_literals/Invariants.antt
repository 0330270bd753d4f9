use Rattle.std.proofs.Common.{◌≡◌, drop}
use Rattle.std.specs.List.{list_all}
use Rattle.kp_symbolic.specs.View.{clauses_view}
use Rattle.kp_satisfiability.specs.Read.{has_literal}
use Rattle.kp_satisfiability.proofs.decide_clauses.have_literals.Given as goal

abbrev pub invariant-loop-clause : goal.invariant-loop-clause
invariant-loop-clause l = list_all has_literal (clauses_view l.clauses) ≡ list_all has_literal (clauses_view (drop l.clause-index l.clauses))
