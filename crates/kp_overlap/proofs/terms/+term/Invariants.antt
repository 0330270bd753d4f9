use Rattle.std.proofs.Common.{◌≡◌, map, take}
use Rattle.kp_signature.specs.View.{signature_view}
use Rattle.kp_symbolic.specs.View.{term_view}
use Rattle.kp_rules.specs.Skeletons.{skeleton_view}
use Rattle.kp_overlap.specs.Overlaps.{term_form}
use Rattle.kp_overlap.proofs.terms.+term.Given as goal

abbrev pub invariant-term_skeletons-loop-term : goal.invariant-term_skeletons-loop-term
invariant-term_skeletons-loop-term l = map skeleton_view l.made.items ≡ map (λ t. term_form (signature_view l.signature) (term_view t)) (take l.term-index l.terms)
