-- A number or a sum with a constant added, and the equality of a term with a bound variable and a constant.
use Rattle.std.specs.Prelude.{◌≡◌, ◌↔◌, ℤ, pos, neg_ℤ, ◌+ℤ◌, Bool, true, false, ◌&&◌, not, Option, Some, None, List, if◌then◌else◌, ⊤}
use Rattle.std.specs.Ordering.{int_eq}
use Rattle.std.proofs.Common.{refl, sym, ◌∙◌, ap, subst}
use Rattle.std.proofs.Math.IntN.{+ℤ_assoc, +ℤ_idr, +ℤ_invl}
use Rattle.std.proofs.lemmas.Bool.Decides.{Decides-int_eq}
use Rattle.kp_kore.specs.Hooks.{whole_arithmetic, addition}
use Rattle.kp_kore.specs.Forms.{two}
use Rattle.kp_kore.specs.Parts.{SortedName}
use Rattle.kp_kore.specs.Signature.{KoreSignature, is_number_sort}
use Rattle.kp_kore.specs.Value.{Value, whole, truth, token, constructed}
use Rattle.kp_kore.specs.Limits.{fits_number}
use Rattle.kp_kore.specs.Interpretation.{interpreted}
use Rattle.kp_kore.specs.Instance.{Valuation, is_named}
use Rattle.kp_symbolic.specs.Terms.{SymbolicTerm, unknown, offset, known, headed, term_instance}
use Rattle.kp_symbolic.specs.Folding.{can_be_added}
use Rattle.kp_symbolic.specs.WellFormed.{term_sort, is_sort_below}
use Rattle.kp_symbolic.specs.Solving.{Equation}
use Rattle.kp_goals.specs.Gives.{has_bound, bound_if, summed_of, of_sum, shifted, bound_at, bound_side}
use Rattle.kp_goals.proofs.OpenPlaces.{IsNumber, summed_apart}

-- where the side is a whole-number variable, alone or with a constant, it stands for a number
abbrev pub SideNumber : KoreSignature → Valuation → SymbolicTerm → Type 0
SideNumber g x (unknown y) = is_number_sort g y.sort ≡ true → IsNumber (x y.name)
SideNumber g x (offset y c) = IsNumber (x y.name)
SideNumber g x t = ⊤

-- t is a number, and n is it with k added
pub record IsShift (g : KoreSignature) (x : Valuation) (k : ℤ) (t n : SymbolicTerm) : Type 0 where
  pub number : ℤ
  pub is : term_instance g x t ≡ whole number
  pub shifted : term_instance g x n ≡ whole (number +ℤ k)

some_same : {X : Type 0} (x y : X) → Some x ≡ Some y → x ≡ y
some_same {X = X} x y e = ap (from x) e
  where
    from : X → Option X → X
    from d (Some z) = z
    from d None = d

pub plus_number : (u : Value) (m c : ℤ) → u ≡ whole m → interpreted (whole_arithmetic addition) (two u (whole c)) ≡ whole (m +ℤ c)
plus_number u m c e = ap (λ z. interpreted (whole_arithmetic addition) (two z (whole c))) e

-- the variable with the constant
summed_says : (g : KoreSignature) (x : Valuation) (z : SortedName) (c m : ℤ) (n : SymbolicTerm) → x z.name ≡ whole m → summed_of g z c ≡ Some n → term_instance g x n ≡ whole (m +ℤ c)
summed_says g x z c m n h e = by_zero (int_eq c (pos 0)) refl e
  where
    by_room : (b : Bool) → (if b then Some (offset z c) else None) ≡ Some n → term_instance g x n ≡ whole (m +ℤ c)
    by_room true e = subst (λ t. term_instance g x t ≡ whole (m +ℤ c)) (some_same (offset z c) n e) (plus_number (x z.name) m c h)
    by_room false e = cc

    by_zero : (b : Bool) → int_eq c (pos 0) ≡ b → (if b then Some (unknown z) else if can_be_added g c then Some (offset z c) else None) ≡ Some n → term_instance g x n ≡ whole (m +ℤ c)
    by_zero true is e = subst (λ t. term_instance g x t ≡ whole (m +ℤ c)) (some_same (unknown z) n e) (h ∙ ap whole (sym (+ℤ_idr m)) ∙ ap (λ d. whole (m +ℤ d)) (sym ((Decides-int_eq c (pos 0)).0 is)))
    by_zero false is e = by_room (can_be_added g c) e

shifted_sum : (g : KoreSignature) (x : Valuation) (k : ℤ) (t : SymbolicTerm) (z : SortedName) (d m : ℤ) (n : SymbolicTerm) → x z.name ≡ whole m → term_instance g x t ≡ whole (m +ℤ d) →
    (b : Bool) → of_sum g k (if b then Some (record { variable = z; constant = d }) else None) ≡ Some n → IsShift g x k t n
shifted_sum g x k t z d m n h is true e = record { number = m +ℤ d; is = is; shifted = summed_says g x z (d +ℤ k) m n h e ∙ ap whole (sym (+ℤ_assoc m d k)) }
shifted_sum g x k t z d m n h is false e = cc

pub shifted_says : (g : KoreSignature) (x : Valuation) (k : ℤ) (t n : SymbolicTerm) → SideNumber g x t → shifted g k t ≡ Some n → IsShift g x k t n
shifted_says g x k (known (whole j)) n i e = by_fit (fits_number (j +ℤ k)) e
  where
    by_fit : (b : Bool) → (if b then Some (known (whole (j +ℤ k))) else None) ≡ Some n → IsShift g x k (known (whole j)) n
    by_fit true e = record { number = j; is = refl; shifted = sym (ap (term_instance g x) (some_same (known (whole (j +ℤ k))) n e)) }
    by_fit false e = cc
shifted_says g x k (known (truth b)) n i e = cc
shifted_says g x k (known (token s a)) n i e = cc
shifted_says g x k (known (constructed c us)) n i e = cc
shifted_says g x k (unknown z) n i e = by_sort (is_number_sort g z.sort) refl e
  where
    by_sort : (b : Bool) → is_number_sort g z.sort ≡ b → of_sum g k (if b then Some (record { variable = z; constant = pos 0 }) else None) ≡ Some n → IsShift g x k (unknown z) n
    by_sort true s e = let m = i s in shifted_sum g x k (unknown z) z (pos 0) m.0 n m.1 (m.1 ∙ ap whole (sym (+ℤ_idr m.0))) true e
    by_sort false s e = cc
shifted_says g x k (offset z d) n i e = shifted_sum g x k (offset z d) z d i.0 n i.1 (plus_number (x z.name) i.0 d i.1) (is_number_sort g z.sort) e
shifted_says g x k (headed f ts) n i e = cc

-- ---- a side with a bound variable

-- what is equated is the variable and the term
if_same : (g : KoreSignature) (bound : List SortedName) (y : SortedName) (t : SymbolicTerm) (e : Equation) → bound_if g bound y t ≡ Some e → record { variable = y; term = t } ≡ e
if_same g bound y t e h = by_test (is_named y.name bound && (not (has_bound bound t) && is_sort_below g (term_sort g t) y.sort)) h
  where
    by_test : (b : Bool) → (if b then Some (record { variable = y; term = t }) else None) ≡ Some e → record { variable = y; term = t } ≡ e
    by_test true h = some_same (record { variable = y; term = t }) e h
    by_test false h = cc

pub back : (m c : ℤ) → (m +ℤ neg_ℤ c) +ℤ c ≡ m
back m c = +ℤ_assoc m (neg_ℤ c) c ∙ ap (λ d. m +ℤ d) (+ℤ_invl c) ∙ +ℤ_idr m

-- the equality of the term with the side says that the variable is what it gives
pub side_says : (g : KoreSignature) (bound : List SortedName) (x : Valuation) (u t : SymbolicTerm) (e : Equation) → SideNumber g x u → SideNumber g x t → bound_side g bound u t ≡ Some e →
    (term_instance g x t ≡ term_instance g x u) ↔ (x e.variable.name ≡ term_instance g x e.term)
side_says g bound x (unknown y) t e i j h = subst (λ q. (term_instance g x t ≡ x y.name) ↔ (x q.variable.name ≡ term_instance g x q.term)) (if_same g bound y t e h) (λ k. sym k, λ k. sym k)
side_says g bound x (offset y c) t e i j h = by_shift (shifted g (neg_ℤ c) t) refl h
  where
    by_shift : (o : Option SymbolicTerm) → shifted g (neg_ℤ c) t ≡ o → bound_at g bound y o ≡ Some e → (term_instance g x t ≡ term_instance g x (offset y c)) ↔ (x e.variable.name ≡ term_instance g x e.term)
    by_shift None s h = cc
    by_shift (Some n) s h =
        let k : IsShift g x (neg_ℤ c) t n = shifted_says g x (neg_ℤ c) t n j s in
        let there : interpreted (whole_arithmetic addition) (two (term_instance g x n) (whole c)) ≡ term_instance g x t = plus_number (term_instance g x n) (k.number +ℤ neg_ℤ c) c k.shifted ∙ ap whole (back k.number c) ∙ sym k.is in
        subst (λ q. (term_instance g x t ≡ term_instance g x (offset y c)) ↔ (x q.variable.name ≡ term_instance g x q.term)) (if_same g bound y n e h) (
          λ a. summed_apart (x y.name) (term_instance g x n) c i (k.number +ℤ neg_ℤ c, k.shifted) (sym a ∙ sym there),
          λ a. sym (ap (λ z. interpreted (whole_arithmetic addition) (two z (whole c))) a ∙ there),
        )
side_says g bound x (known u) t e i j h = cc
side_says g bound x (headed f ts) t e i j h = cc
