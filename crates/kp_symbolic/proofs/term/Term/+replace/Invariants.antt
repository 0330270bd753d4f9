use Rattle.std.proofs.Common.{◌≡◌, map, take}
use Rattle.kp_signature.specs.View.{signature_view}
use Rattle.kp_symbolic.specs.Folding as model
use Rattle.kp_symbolic.specs.View.{term_view, replaced_view}
use Rattle.kp_symbolic.proofs.term.Term.+replace.Given as goal

abbrev pub invariant-all_replaced-loop-term : goal.invariant-all_replaced-loop-term
invariant-all_replaced-loop-term l =
    map term_view l.found.items
    ≡ map (λ t. model.replaced (signature_view l.language.signature.now) (map replaced_view l.replaced) (term_view t)) (take l.term-index l.terms)
