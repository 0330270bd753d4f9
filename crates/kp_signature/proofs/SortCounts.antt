-- Sorts by their number.
use Rattle.std.proofs.Common.{◌≡◌, refl, ℕ, Bool, true, false, ◌==◌, List, [], ◌∷◌, length}
use Rattle.std.proofs.lemmas.Bool.Decides.{Decides-eqb}
use Rattle.kp_kore.specs.Syntax.{KoreSort}
use Rattle.kp_kore.specs.Signature.{are_two, are_one}
use Rattle.kp_kore.specs.View.{sorts_view}
use Rattle.kp_kore.specs.declared.sort.Sort.{Sort}

pub not_two_sorts : (test : KoreSort → Bool) (ss : List Sort) → (length ss ≡ 2 → ⊥) → are_two test (sorts_view ss) ≡ false
not_two_sorts test [] h = refl
not_two_sorts test (x ∷ []) h = refl
not_two_sorts test (x ∷ y ∷ []) h = absurd (h refl)
not_two_sorts test (x ∷ y ∷ z ∷ zs) h = refl

pub not_one_sort : (test : KoreSort → Bool) (ss : List Sort) → (length ss ≡ 1 → ⊥) → are_one test (sorts_view ss) ≡ false
not_one_sort test [] h = refl
not_one_sort test (x ∷ []) h = absurd (h refl)
not_one_sort test (x ∷ y ∷ ys) h = refl

another_number : (n : ℕ) (b : Bool) → (n == 2) ≡ b → (n ≡ 2 → ⊥) → b ≡ false
another_number n true e h = absurd (h ((Decides-eqb n 2).0 e))
another_number n false e h = refl

pub two_of_any : (ss : List Sort) → (length ss == 2) ≡ are_two (λ s. true) (sorts_view ss)
two_of_any [] = refl
two_of_any (x ∷ []) = refl
two_of_any (x ∷ y ∷ []) = refl
two_of_any (x ∷ y ∷ z ∷ zs) = another_number (length (x ∷ y ∷ z ∷ zs)) _ refl (λ e. absurd (cc))
