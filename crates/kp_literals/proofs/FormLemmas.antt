-- Calls of other than two terms have no form.
use Rattle.std.proofs.Common.{◌≡◌, refl, Bool, List, [], ◌∷◌, map, length, None}
use Rattle.kp_kore.specs.Syntax.{Text}
use Rattle.kp_kore.specs.Signature.{KoreSignature}
use Rattle.kp_symbolic.specs.Terms.{headed}
use Rattle.kp_symbolic.specs.Plain.{truth_form}
use Rattle.kp_symbolic.specs.View.{term_view, terms_of}
use Rattle.kp_symbolic.specs.declared.term.Term.{Term}

pub not_two_terms : (g : KoreSignature) (b : Bool) (f : Text) (ts : List Term) → (length ts ≡ 2 → ⊥) → None ≡ truth_form g b (headed f (terms_of (map term_view ts)))
not_two_terms g b f [] n = refl
not_two_terms g b f (t ∷ []) n = refl
not_two_terms g b f (t ∷ u ∷ []) n = absurd (n refl)
not_two_terms g b f (t ∷ u ∷ w ∷ ts) n = refl
