use Rattle.std.proofs.Common.{◌≡◌, map, take}
use Rattle.kp_kore.specs.View.{view}
use Rattle.kp_signature.specs.View.{signature_view}
use Rattle.kp_symbolic.specs.Folding as model
use Rattle.kp_symbolic.specs.View.{term_view, replaced_view}
use Rattle.kp_symbolic.proofs.fold.+fold.Given as goal

abbrev pub invariant-terms_under-loop-pattern : goal.invariant-terms_under-loop-pattern
invariant-terms_under-loop-pattern l =
    map term_view l.terms.items
    ≡ map (λ p. model.folded (signature_view l.language.signature.now) (map replaced_view l.replaced) (view p)) (take l.pattern-index l.patterns)
