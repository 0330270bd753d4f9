-- Sums and products that stop at the largest number that is told.
use Rattle.std.proofs.Common.{◌≡◌, refl, sym, ap, subst, ◌∙◌, arith, ℕ, zero, suc, ◌+◌, ◌-◌, ◌^◌, ◌*◌, ◌<◌, ◌≤◌, min, Bool, true, false}
use Rattle.std.specs.Prelude.{nat_le}
use Rattle.std.proofs.lemmas.Bool.{leb-true}
use Rattle.std.proofs.Math.Nat.{min-eq_left, min-eq_right, mul-zero, zero-mul, mul_assoc}
use Rattle.kp_limits.specs.Told.{told}

module _ (top : ℕ) where
  data Cut (n : ℕ) : Type 0 where
    whole : n ≤ top → min n top ≡ n → Cut n
    cut : top ≤ n → min n top ≡ top → Cut n

  over : (n : ℕ) → nat_le n top ≡ false → top ≤ n
  over n e = grind (arith, e)

  is_cut : (n : ℕ) → Cut n
  is_cut n = by (nat_le n top) refl
    where
      by : (b : Bool) → nat_le n top ≡ b → Cut n
      by true e = whole (leb-true n top e) (min-eq_left (leb-true n top e))
      by false e = cut (over n e) (min-eq_right (over n e))

  at_top : (n : ℕ) → top ≤ n → min n top ≡ top
  at_top n h = min-eq_right h

  cut_plus : (s c r : ℕ) → min (min (s + c) top + r) top ≡ min (s + (c + r)) top
  cut_plus s c r = by (is_cut (s + c))
    where
      by : Cut (s + c) → min (min (s + c) top + r) top ≡ min (s + (c + r)) top
      by (whole h e) = ap (λ k. min (k + r) top) e ∙ ap (λ k. min k top) (omega arith)
      by (cut h e) = ap (λ k. min (k + r) top) e ∙ at_top (top + r) (omega arith) ∙ sym (at_top (s + (c + r)) (omega (arith, h)))

  cut_sum : (s c r : ℕ) → min (min (s + min c top) top + r) top ≡ min (s + (c + r)) top
  cut_sum s c r = by (is_cut c)
    where
      by : Cut c → min (min (s + min c top) top + r) top ≡ min (s + (c + r)) top
      by (whole h e) = ap (λ k. min (min (s + k) top + r) top) e ∙ cut_plus s c r
      by (cut h e) = ap (λ k. min (min (s + k) top + r) top) e ∙ cut_plus s top r ∙ at_top (s + (top + r)) (omega arith) ∙ sym (at_top (s + (c + r)) (omega (arith, h)))

  grows : (x r : ℕ) → x ≤ x * suc r
  grows x r = omega arith

  cut_product : (p c r : ℕ) → min (min (p * min c top) top * r) top ≡ min (p * (c * r)) top
  cut_product p c zero = ap (λ k. min k top) (mul-zero (min (p * min c top) top) ∙ sym (ap (λ k. p * k) (mul-zero c) ∙ mul-zero p))
  cut_product p c (suc r) = by (is_cut c)
    where
      inner : (t : ℕ) → Cut (p * t) → min (min (p * t) top * suc r) top ≡ min (p * (t * suc r)) top
      inner t (whole h e) = ap (λ k. min (k * suc r) top) e ∙ ap (λ k. min k top) (mul_assoc p t (suc r))
      inner t (cut h e) = ap (λ k. min (k * suc r) top) e ∙ at_top (top * suc r) (grows top r) ∙ sym (at_top (p * (t * suc r)) (subst (λ k. top ≤ k) (mul_assoc p t (suc r)) (let q = grows (p * t) r in omega (arith, h, q))))

      large : (p : ℕ) → top ≤ c → min (p * (top * suc r)) top ≡ min (p * (c * suc r)) top
      large zero h = ap (λ k. min k top) (zero-mul (top * suc r) ∙ sym (zero-mul (c * suc r)))
      large (suc p) h =
          let i = grows top r in
          let j = grows c r in
          let k : top * suc r ≤ suc p * (top * suc r) = omega arith in
          let l : c * suc r ≤ suc p * (c * suc r) = omega arith in
          at_top (suc p * (top * suc r)) (omega (arith, i, k)) ∙ sym (at_top (suc p * (c * suc r)) (omega (arith, h, j, l)))

      by : Cut c → min (min (p * min c top) top * suc r) top ≡ min (p * (c * suc r)) top
      by (whole h e) = ap (λ k. min (min (p * k) top * suc r) top) e ∙ inner c (is_cut (p * c))
      by (cut h e) = ap (λ k. min (min (p * k) top * suc r) top) e ∙ inner top (is_cut (p * top)) ∙ large p h

  -- a limit below the top is passed where what is told passes it
  cut_over : (limit n : ℕ) → limit < top → limit < min n top → limit < n
  cut_over limit n small h = by (is_cut n)
    where
      by : Cut n → limit < n
      by (whole i e) = subst (λ k. limit < k) e h
      by (cut i e) = omega (arith, small, i)

  cut_within : (limit n : ℕ) → limit < top → min n top ≤ limit → n ≤ limit
  cut_within limit n small h = by (is_cut n)
    where
      by : Cut n → n ≤ limit
      by (whole i e) = subst (λ k. k ≤ limit) e h
      by (cut i e) = absurd (no (subst (λ k. k ≤ limit) e h))
        where
          no : top ≤ limit → ⊥
          no l = omega (arith, small, l)

  cut_twice : (n : ℕ) → min (min n top) top ≡ min n top
  cut_twice n = by (is_cut n)
    where
      by : Cut n → min (min n top) top ≡ min n top
      by (whole h e) = ap (λ k. min k top) e
      by (cut h e) = ap (λ k. min k top) e ∙ at_top top (omega arith) ∙ sym e

  cut_once : (n : ℕ) → n ≤ top → min n top ≡ n
  cut_once n h = min-eq_left h

pub told_plus : (s c r : ℕ) → told (told (s + c) + r) ≡ told (s + (c + r))
told_plus s c r = cut_plus (2 ^ 64 - 1) s c r

pub told_more : (s c r : ℕ) → told (told (s + told c) + r) ≡ told (s + (c + r))
told_more s c r = cut_sum (2 ^ 64 - 1) s c r

pub told_times : (p c r : ℕ) → told (told (p * told c) * r) ≡ told (p * (c * r))
told_times p c r = cut_product (2 ^ 64 - 1) p c r

pub told_twice : (n : ℕ) → told (told n) ≡ told n
told_twice n = cut_twice (2 ^ 64 - 1) n

pub is_over : (limit n : ℕ) → limit < (2 ^ 64 - 1) → limit < told n → limit < n
is_over limit n small h = cut_over (2 ^ 64 - 1) limit n small h

pub is_within : (limit n : ℕ) → limit < (2 ^ 64 - 1) → told n ≤ limit → n ≤ limit
is_within limit n small h = cut_within (2 ^ 64 - 1) limit n small h

pub told_is_itself : (n : ℕ) → n ≤ (2 ^ 64 - 1) → told n ≡ n
told_is_itself n h = cut_once (2 ^ 64 - 1) n h
