use Rattle.kp_signature.specs.View.{signature_view}
use Rattle.kp_limits.proofs.SumLemmas.{SumLeft, places_in}
use Rattle.kp_limits.proofs.places.+places.Given as goal

abbrev pub invariant-places_of_all-loop-left : goal.invariant-places_of_all-loop-left
invariant-places_of_all-loop-left l = SumLeft (places_in (signature_view l.signature)) l.lefts l.left-index l.count
