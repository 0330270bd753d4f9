-- Sums and products that are counted up to a bound.
use Rattle.std.proofs.Common.{◌≡◌, refl, sym, ap, ap₂, ◌∙◌, ℕ, zero, suc, ◌+◌, ◌*◌, ◌<◌, ◌≤◌, min, Bool, true, false, nat_le, nat_lt, arith}
use Rattle.std.proofs.lemmas.Bool.Decides.{nat_tests}
use Rattle.std.proofs.Math.Nat.{min-eq_left, min-eq_right, zero-min, le-min, mul_comm, mul-le-mul_left}

pub within : (a b : ℕ) → nat_le a b ≡ true → a ≤ b
within a b t = grind (arith, nat_tests)

pub above : (a b : ℕ) → nat_le a b ≡ false → b ≤ a
above a b t = grind (arith, nat_tests)

pub sum_capped : (c a b : ℕ) → min (min a c + min b c) c ≡ min (a + b) c
sum_capped c a b = omega arith

pub at_least : (k a : ℕ) → 1 ≤ a → k ≤ k * a
at_least k a h = let e = mul-le-mul_left k h in omega (arith, e)

-- more than the bound, times another number
large : (c a b : ℕ) → 0 < c → c ≤ a → min (c * min b c) c ≡ min (a * b) c
large c a zero p h = ap (λ x. min (c * x) c) (zero-min c) ∙ omega arith
large c a (suc b) p h =
    let l : c ≤ c * min (suc b) c = at_least c (min (suc b) c) (le-min (omega arith) p) in
    let r : a ≤ a * suc b = at_least a (suc b) (omega arith) in
    min-eq_right l ∙ sym (min-eq_right (omega (arith, r, h)))

pub product_capped : (c a b : ℕ) → 0 < c → min (min a c * min b c) c ≡ min (a * b) c
product_capped c a b p = by (nat_le a c) (nat_le b c) refl refl
  where
    by : (t u : Bool) → nat_le a c ≡ t → nat_le b c ≡ u → min (min a c * min b c) c ≡ min (a * b) c
    by false u e d = ap (λ x. min (x * min b c) c) (min-eq_right (above a c e)) ∙ large c a b p (above a c e)
    by true true e d = ap₂ (λ x y. min (x * y) c) (min-eq_left (within a c e)) (min-eq_left (within b c d))
    by true false e d = ap (λ x. min x c) (mul_comm (min a c) (min b c)) ∙ ap (λ x. min (x * min a c) c) (min-eq_right (above b c d)) ∙ large c b a p (above b c d) ∙ ap (λ x. min x c) (mul_comm b a)

-- a large number times another is small only where that is none
pub no_room : (most l k : ℕ) → most < l → l * k ≤ most → k ≡ 0
no_room most l zero h e = refl
no_room most l (suc k) h e = let r = at_least l (suc k) (omega arith) in absurd (omega (arith, h, e, r))
