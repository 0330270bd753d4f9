-- Places that are listed each once: all are there, and none comes again.
use Rattle.std.proofs.Common.{◌≡◌, ◌≢◌, refl, sym, subst, arith, ℕ, zero, suc, ◌+◌, ◌<◌, ◌≤◌, get_or, Bool, true, false, ◌==◌, List, [], ◌∷◌, ◌++◌, Some, slice_get, inl, inr}
use Rattle.std.specs.List.{AllZip, Contains}
use Rattle.std.proofs.lemmas.Bool.Decides.{Decides-eqb}
use Rattle.std.proofs.lemmas.List.Elements.{Contains-push, Contains-append_left, Contains-append_right, Contains-append_cases}
use Rattle.kp_rule_sets.proofs.Chosen.{times, times_on, times_more, times_here}

pub counted_is_there : (xs : List ℕ) (i : ℕ) → times i xs ≢ 0 → Contains xs i
counted_is_there [] i h = absurd (h refl)
counted_is_there (x ∷ xs) i h = by (x == i) refl (counted_is_there xs i)
  where
    by : (b : Bool) → (x == i) ≡ b → (times i xs ≢ 0 → Contains xs i) → Contains (x ∷ xs) i
    by true e rest = subst (λ j. Contains (x ∷ xs) j) ((Decides-eqb x i).0 e) (Contains-append_left (x ∷ []) xs x (Contains-push [] x))
    by false e rest = Contains-append_right (x ∷ []) xs i (rest (times_on i x xs e h))

one_at_least : (xs ys : List ℕ) (i : ℕ) → 1 ≤ times i (xs ++ i ∷ ys)
one_at_least [] ys i = let here : times i (i ∷ ys) ≡ 1 + times i ys = times_here i ys in omega (arith, here)
one_at_least (x ∷ xs) ys i = let rest = one_at_least xs ys i in let more : times i (xs ++ i ∷ ys) ≤ times i (x ∷ (xs ++ i ∷ ys)) = times_more i x (xs ++ i ∷ ys) in omega (arith, rest, more)

two_at_least : (xs ys : List ℕ) (i : ℕ) → Contains xs i → 2 ≤ times i (xs ++ i ∷ ys)
two_at_least [] ys i c = let none = c.1 in absurd (omega (arith, none))
two_at_least (x ∷ xs) ys i c = elim (Contains-append_cases (x ∷ []) xs i c) [
  | inl h ↦ here (only x h)
  | inr h ↦ let rest = two_at_least xs ys i h in let more : times i (xs ++ i ∷ ys) ≤ times i (x ∷ (xs ++ i ∷ ys)) = times_more i x (xs ++ i ∷ ys) in omega (arith, rest, more)
]
  where
    only : (y : ℕ) → Contains (y ∷ []) i → y ≡ i
    only y (k, l, e) = by k l e
      where
        by : (j : ℕ) → j < 1 → get_or (y ∷ []) j i ≡ i → y ≡ i
        by zero l e = e
        by (suc j) l e = absurd (omega (arith, l))

    here : x ≡ i → 2 ≤ times i ((x ∷ xs) ++ i ∷ ys)
    here e =
        let first : times i (i ∷ (xs ++ i ∷ ys)) ≡ 1 + times i (xs ++ i ∷ ys) = times_here i (xs ++ i ∷ ys) in
        let rest = one_at_least xs ys i in
        subst (λ y. 2 ≤ times i (y ∷ (xs ++ i ∷ ys))) (sym e) (omega (arith, first, rest))

pub none_again : (xs ys : List ℕ) (i : ℕ) → times i (xs ++ i ∷ ys) ≤ 1 → ¬ Contains xs i
none_again xs ys i once c = let two = two_at_least xs ys i c in let no : ⊥ = omega (arith, once, two) in no

-- ---- two lists side by side

inside : {X : Type 0} {x y : X} → Some x ≡ Some y → x ≡ y
inside e = cc

-- what stands at a place of the second has its like in the first
pub zip_at : {X Y : Type 0} (R : X → Y → Type 0) (xs : List X) (ys : List Y) (i : ℕ) (y : Y) → AllZip R xs ys → slice_get ys i ≡ Some y → (x : X) × (slice_get xs i ≡ Some x) × R x y
zip_at R [] [] i y z e = absurd (cc)
zip_at R [] (b ∷ ys) i y z e = absurd z
zip_at R (a ∷ xs) [] i y z e = absurd z
zip_at R (a ∷ xs) (b ∷ ys) zero y z e = (a, refl, subst (R a) (inside e) z.0)
zip_at R (a ∷ xs) (b ∷ ys) (suc i) y z e = zip_at R xs ys i y z.1 e

-- and the other way
pub zip_back : {X Y : Type 0} (R : X → Y → Type 0) (xs : List X) (ys : List Y) (i : ℕ) (x : X) → AllZip R xs ys → slice_get xs i ≡ Some x → (y : Y) × (slice_get ys i ≡ Some y) × R x y
zip_back R [] [] i x z e = absurd (cc)
zip_back R [] (b ∷ ys) i x z e = absurd z
zip_back R (a ∷ xs) [] i x z e = absurd z
zip_back R (a ∷ xs) (b ∷ ys) zero x z e = (b, refl, subst (λ c. R c b) (inside e) z.0)
zip_back R (a ∷ xs) (b ∷ ys) (suc i) x z e = zip_back R xs ys i x z.1 e
