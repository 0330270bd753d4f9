-- Sums over views, and how often a number stands in a list.
use Rattle.std.proofs.Common.{◌≡◌, ℕ, zero, suc, ◌+◌, ◌<◌, ◌≤◌, ◌≢◌, ◌==◌, eqb, eq-eqb, ne_eqb, List, [], ◌∷◌, ◌++◌, length, set, refl, ap, sym, ◌∙◌, subst, arith}
use mathlib.Core.Option.{some, some-injective, some-ne-none}
use lib.ListN.{get_elem?}
use Rattle.std.specs.Prelude.{if◌then◌else◌}
use Rattle.kp_history.specs.Views.{total, times}

module _ {A : Type 0} (f : A → ℕ) where
  pub total_set : (l : List A) (i : ℕ) (v w : A) → get_elem? l i ≡ some v → total f (set l i w) + f v ≡ total f l + f w
  total_set [] i v w e = absurd (some-ne-none v (sym e))
  total_set (x ∷ xs) zero v w e = let same : f x ≡ f v = ap f (some-injective x v e) in omega arith
  total_set (x ∷ xs) (suc i) v w e = let rest = total_set xs i v w e in omega arith

  pub total_snoc : (l : List A) (w : A) → total f (l ++ w ∷ []) ≡ total f l + f w
  total_snoc [] w = omega arith
  total_snoc (x ∷ xs) w = let rest = total_snoc xs w in omega arith

  -- one is no more than all
  pub one_of : (l : List A) (i : ℕ) (v : A) → get_elem? l i ≡ some v → f v ≤ total f l
  one_of [] i v e = absurd (some-ne-none v (sym e))
  one_of (x ∷ xs) zero v e = let same : f x ≡ f v = ap f (some-injective x v e) in omega arith
  one_of (x ∷ xs) (suc i) v e = let rest = one_of xs i v e in omega arith

  -- two are no more than all
  pub two_of : (l : List A) (i j : ℕ) (v w : A) → i ≢ j → get_elem? l i ≡ some v → get_elem? l j ≡ some w → f v + f w ≤ total f l
  two_of [] i j v w apart e h = absurd (some-ne-none v (sym e))
  two_of (x ∷ xs) zero zero v w apart e h = absurd (apart refl)
  two_of (x ∷ xs) zero (suc j) v w apart e h = let same : f x ≡ f v = ap f (some-injective x v e) in let rest = one_of xs j w h in omega arith
  two_of (x ∷ xs) (suc i) zero v w apart e h = let same : f x ≡ f w = ap f (some-injective x w h) in let rest = one_of xs i v e in omega arith
  two_of (x ∷ xs) (suc i) (suc j) v w apart e h = let rest = two_of xs i j v w (λ p. apart (ap suc p)) e h in omega arith

  -- where all others have none, one is all
  pub sole : (l : List A) (i : ℕ) (v : A) → get_elem? l i ≡ some v → ((j : ℕ) (w : A) → j ≢ i → get_elem? l j ≡ some w → f w ≡ 0) → total f l ≡ f v
  sole [] i v e others = absurd (some-ne-none v (sym e))
  sole (x ∷ xs) zero v e others = let same : f x ≡ f v = ap f (some-injective x v e) in
      let rest : total f xs ≡ 0 = nothing xs (λ j w h. others (suc j) w (λ p. omega arith) h) in omega arith
    where
      nothing : (l : List A) → ((j : ℕ) (w : A) → get_elem? l j ≡ some w → f w ≡ 0) → total f l ≡ 0
      nothing [] none_here = refl
      nothing (y ∷ ys) none_here = let a = none_here 0 y refl in let b = nothing ys (λ j w h. none_here (suc j) w h) in omega arith
  sole (x ∷ xs) (suc i) v e others = let first = others 0 x (λ p. omega arith) refl in
      let rest = sole xs i v e (λ j w apart h. others (suc j) w (λ p. apart (omega arith)) h) in omega arith

pub total_le : {A : Type 0} (f g : A → ℕ) (l : List A) → ((i : ℕ) (v : A) → get_elem? l i ≡ some v → f v ≤ g v) → total f l ≤ total g l
total_le f g [] all = omega arith
total_le f g (x ∷ xs) all = let first = all 0 x refl in let rest = total_le f g xs (λ i v e. all (suc i) v e) in omega arith

pub times_here : (x : ℕ) → times x (x ∷ []) ≡ 1
times_here x = let e : eqb x x ≡ Rattle.std.proofs.Common.true = eq-eqb x x refl in ap (λ b. (if b then 1 else 0) + 0) e

pub times_off : (x y : ℕ) → x ≢ y → times x (y ∷ []) ≡ 0
times_off x y ne = ap (λ b. (if b then 1 else 0) + 0) (ne_eqb x y ne)

pub times_append : (x : ℕ) (l m : List ℕ) → times x (l ++ m) ≡ times x l + times x m
times_append x [] m = omega arith
times_append x (y ∷ ys) m = let rest = times_append x ys m in let k : ℕ = if x == y then 1 else 0 in omega arith
