use Rattle.kp_signature.specs.View.{signature_view}
use Rattle.kp_limits.proofs.WideLemmas.{ClausesLeft}
use Rattle.kp_limits.proofs.wide.wide_in_clauses.Given as goal

abbrev pub invariant-loop-clause : goal.invariant-loop-clause
invariant-loop-clause l = ClausesLeft (signature_view l.signature) l.clauses l.clause-index
