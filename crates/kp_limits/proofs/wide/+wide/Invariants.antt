use Rattle.kp_signature.specs.View.{signature_view}
use Rattle.kp_limits.proofs.WideLemmas.{TermsLeft}
use Rattle.kp_limits.proofs.wide.+wide.Given as goal

abbrev pub invariant-wide_in_terms-loop-term : goal.invariant-wide_in_terms-loop-term
invariant-wide_in_terms-loop-term l = TermsLeft (signature_view l.signature) l.terms l.term-index
