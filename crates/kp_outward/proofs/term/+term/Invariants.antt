use Rattle.std.proofs.Common.{◌≡◌}
use Rattle.kp_kore.specs.View.{patterns_view}
use Rattle.kp_signature.specs.View.{signature_view}
use Rattle.kp_outward.proofs.TermLists.{written_first}
use Rattle.kp_outward.proofs.term.+term.Given as goal

abbrev pub invariant-terms_out-loop-i : goal.invariant-terms_out-loop-i
invariant-terms_out-loop-i l = patterns_view l.patterns.items ≡ written_first (signature_view l.language.signature.now) l.i l.places l.terms
