-- A term that has a sort for each instance, by a test of its form or its head.
use Rattle.std.proofs.Common.{◌≡◌, sym, ◌∙◌, subst, ap, ℕ, zero, suc, ◌+◌, ◌<◌, ◌≤◌, arith, Bool, true, List, [], ◌∷◌, map, length, get_or, drop, inl, inr}
use Rattle.std.specs.List.{AllByRecursion}
use Rattle.std.proofs.lemmas.List.{drop_more, drop_all}
use Rattle.kp_kore.specs.Syntax.{KoreSort}
use Rattle.kp_kore.specs.Parts.{SortedName}
use Rattle.kp_kore.specs.Signature.{KoreSignature, Head, is_below, is_head}
use Rattle.kp_signature.proofs.Below.{is_below-Decides}
use Rattle.kp_signature.proofs.HeadLemmas.{is_head-Decides}
use Rattle.kp_symbolic.specs.Terms.{SymbolicTerm, unknown}
use Rattle.kp_symbolic.specs.WellFormed.{IsWellSorted}
use Rattle.kp_case_laws.specs.Courses.{IsTermOf}
use Rattle.kp_case_laws.specs.Rows.{IsOfHead}
use Rattle.kp_case_laws.proofs.RowLemmas.{sorted_by_head}
use Rattle.kp_unify.proofs.PlaceLemmas.{term_head}

pub placed_by_test : (g : KoreSignature) (hand : List SortedName) (s : KoreSort) (t : SymbolicTerm) (b : Bool) → ((x : SortedName) → t ≡ unknown x → b ≡ is_below g.subsorts x.sort s) → ((h : Head) → IsOfHead g t h → b ≡ is_head g s h) → IsTermOf g hand t → b ≡ true → IsWellSorted g s t
placed_by_test g hand s t b v f k e = elim (term_head g k.place t k.sorted) [
  | inl (x, i) ↦ subst (IsWellSorted g s) (sym i) ((is_below-Decides g.subsorts x.sort s).0 (sym (v x i) ∙ e))
  | inr (h, i) ↦ sorted_by_head g k.place s t h k.sorted i ((is_head-Decides g s h).0 (sym (f h i) ∙ e))
]

-- ---- each of a list

one_of_these : {A X : Type 0} (P : X → Type 0) (v : A → X) (i : ℕ) (xs : List A) (x : A) → i < length xs → x ≡ get_or xs i x → AllByRecursion P (map v xs) → P (v x)
one_of_these P v i [] x h e all = absurd (omega (arith, h))
one_of_these P v zero (y ∷ xs) x h e all = subst (λ z. P (v z)) (sym e) all.0
one_of_these P v (suc i) (y ∷ xs) x h e all = one_of_these P v i xs x (omega (arith, h)) e all.1

pub one_more : {A X : Type 0} (P Q : X → Type 0) (v : A → X) (i : ℕ) (xs : List A) (x : A) → i < length xs → x ≡ get_or xs i x → (P (v x) → Q (v x)) → AllByRecursion P (map v xs) → (AllByRecursion Q (map v (drop i xs)) → AllByRecursion Q (map v xs)) →
    AllByRecursion Q (map v (drop (i + 1) xs)) → AllByRecursion Q (map v xs)
one_more P Q v i xs x h e f all k rest =
    let front : drop i xs ≡ x ∷ drop (i + 1) xs = drop_more xs i x h ∙ ap (λ y. y ∷ drop (i + 1) xs) (sym e) in
    k (subst (λ ys. AllByRecursion Q (map v ys)) (sym front) (f (one_of_these P v i xs x h e all), rest))

pub all_past : {A X : Type 0} (Q : X → Type 0) (v : A → X) (i : ℕ) (xs : List A) → length xs ≤ i → (AllByRecursion Q (map v (drop i xs)) → AllByRecursion Q (map v xs)) → AllByRecursion Q (map v xs)
all_past Q v i xs past k = k (subst (λ ys. AllByRecursion Q (map v ys)) (sym (drop_all i xs past)) tt)
