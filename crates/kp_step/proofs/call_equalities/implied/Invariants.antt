use Rattle.kp_signature.specs.View.{signature_view}
use Rattle.kp_symbolic.specs.View.{clauses_view}
use Rattle.kp_step.specs.Implied.{FollowFrom}
use Rattle.kp_step.proofs.call_equalities.implied.Given as goal

abbrev pub invariant-loop-clause : goal.invariant-loop-clause
invariant-loop-clause l = FollowFrom (signature_view l.signature) (clauses_view l.clauses) (clauses_view l.found.items)
