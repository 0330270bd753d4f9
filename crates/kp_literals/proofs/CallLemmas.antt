-- Calls of other than two terms equate nothing and ask for no head, and a constructor with arguments is no constant.
use Rattle.std.proofs.Common.{◌≡◌, refl, Bool, List, [], ◌∷◌, map, length, None}
use Rattle.kp_kore.specs.Syntax.{Text}
use Rattle.kp_kore.specs.Signature.{KoreSignature}
use Rattle.kp_ground.specs.View.{value_view, values_of}
use Rattle.kp_ground.specs.declared.value.Value.{Value}
use Rattle.kp_kore.specs.Value.{constructed}
use Rattle.kp_symbolic.specs.Terms.{headed}
use Rattle.kp_symbolic.specs.Plain.{head_by_truth}
use Rattle.kp_symbolic.specs.Solving.{equation_of_truth}
use Rattle.kp_symbolic.specs.View.{term_view, terms_of}
use Rattle.kp_symbolic.specs.declared.term.Term.{Term}
use Rattle.kp_literals.specs.Own.{constant_said}

pub not_two_sides : (g : KoreSignature) (b : Bool) (f : Text) (ts : List Term) → (length ts ≡ 2 → ⊥) → None ≡ equation_of_truth g b (headed f (terms_of (map term_view ts)))
not_two_sides g b f [] n = refl
not_two_sides g b f (t ∷ []) n = refl
not_two_sides g b f (t ∷ u ∷ []) n = absurd (n refl)
not_two_sides g b f (t ∷ u ∷ w ∷ ts) n = refl

pub not_two_asked : (g : KoreSignature) (b : Bool) (f : Text) (ts : List Term) → (length ts ≡ 2 → ⊥) → None ≡ head_by_truth g b (headed f (terms_of (map term_view ts)))
not_two_asked g b f [] n = refl
not_two_asked g b f (t ∷ []) n = refl
not_two_asked g b f (t ∷ u ∷ []) n = absurd (n refl)
not_two_asked g b f (t ∷ u ∷ w ∷ ts) n = refl

pub not_constant : (f : Text) (us : List Value) → (length us ≡ 0 → ⊥) → None ≡ constant_said (constructed f (values_of (map value_view us)))
not_constant f [] n = absurd (n refl)
not_constant f (u ∷ us) n = refl
