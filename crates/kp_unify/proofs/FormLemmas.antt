-- Members of forms, one by one.
use Rattle.std.proofs.Common.{◌≡◌, refl, sym, ap, ap₂, ◌∙◌, ℕ, zero, suc, ◌+◌, ◌<◌, List, [], ◌∷◌, ◌++◌, map, length, drop, get_or, arith}
use Rattle.kp_kore.specs.Syntax.{Text}
use Rattle.kp_kore.specs.Value.{constructed}
use Rattle.kp_ground.specs.View.{value_view, values_of}
use Rattle.kp_ground.specs.declared.value.Value.{Value}
use Rattle.kp_symbolic.specs.Terms.{SymbolicTerm}
use Rattle.kp_rules.specs.Skeletons.{Form, fixed, forms_of, next_form}
use Rattle.kp_case_laws.specs.Courses.{all_fixed}
use Rattle.kp_case_laws.specs.Rows.{HasMembers}
use Rattle.kp_unify.specs.Replaced.{pairs_of}

-- values as forms
pub fixed_forms : (us : List Value) → all_fixed (values_of (map value_view us)) ≡ forms_of (map (λ u. fixed (value_view u)) us)
fixed_forms [] = refl
fixed_forms (u ∷ us) = ap (next_form (fixed (value_view u))) (fixed_forms us)

pub members_of_value : (c : Text) (us : List Value) → HasMembers (fixed (constructed c (values_of (map value_view us)))) c (forms_of (map (λ u. fixed (value_view u)) us))
members_of_value c us = (refl, fixed_forms us)

pub image_at : {X Y : Type 0} (f : X → Y) (xs : List X) (i : ℕ) (x : X) (d : Y) → i < length xs → x ≡ get_or xs i x → f x ≡ get_or (map f xs) i d
image_at f [] i x d h e = absurd (omega (arith, h))
image_at f (y ∷ xs) zero x d h e = ap f e
image_at f (y ∷ xs) (suc i) x d h e = image_at f xs i x d (omega (arith, h)) e

-- from a place on, the first as the last
pairs_after : (fs : List Form) (ts : List SymbolicTerm) (i : ℕ) (f : Form) (t : SymbolicTerm) → i < length fs → i < length ts → f ≡ get_or fs i f → t ≡ get_or ts i t →
    pairs_of (drop i fs) (drop i ts) ≡ pairs_of (drop (suc i) fs) (drop (suc i) ts) ++ record { form = f; term = t } ∷ []
pairs_after [] ts i f t h k d e = absurd (omega (arith, h))
pairs_after (g ∷ fs) [] i f t h k d e = absurd (omega (arith, k))
pairs_after (g ∷ fs) (u ∷ ts) zero f t h k d e = ap₂ (λ x y. pairs_of fs ts ++ record { form = x; term = y } ∷ []) (sym d) (sym e)
pairs_after (g ∷ fs) (u ∷ ts) (suc i) f t h k d e = pairs_after fs ts i f t (omega (arith, h)) (omega (arith, k)) d e

pub pairs_from : (fs : List Form) (ts : List SymbolicTerm) (i j : ℕ) (f : Form) (t : SymbolicTerm) → j ≡ i + 1 → i < length fs → i < length ts → f ≡ get_or fs i f → t ≡ get_or ts i t →
    pairs_of (drop i fs) (drop i ts) ≡ pairs_of (drop j fs) (drop j ts) ++ record { form = f; term = t } ∷ []
pairs_from fs ts i j f t n h k d e =
    let one : suc i ≡ j = omega (arith, n) in
    pairs_after fs ts i f t h k d e ∙ ap (λ m. pairs_of (drop m fs) (drop m ts) ++ record { form = f; term = t } ∷ []) one
