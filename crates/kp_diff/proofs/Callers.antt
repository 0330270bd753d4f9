-- For callers: what the bounds of a matrix mean after `new`, `clear` and `bound`, and how many bits they have.
use Rattle.std.proofs.Common.{◌≡◌, ◌≢◌, refl, sym, subst, arith, ◌≤◌, ◌<◌, ◌^◌, ◌↔◌, ◌⊎◌, inl, inr, ℕ, ℤ, pos, ◌-ℤ◌, ◌≤ℤ◌, Option, Some, None, Bool, true, false}
use Rattle.std.specs.Prelude.{int_le, nat_eq, if◌then◌else◌, unsigned_abs}
use Rattle.std.proofs.lemmas.Int.{ints}
use Rattle.std.proofs.lemmas.Nat.{pow_pos}
use Rattle.kp_diff.specs.Bounds.{Bounds, IsWithin, Meets, no_bounds, narrower, HasBits, HaveBits}
use Rattle.kp_diff.proofs.RowSteps.{same_or_not}
use Rattle.kp_diff.proofs.Values.{within_narrower, within_first, within_second}

-- all values with zero at place 0 meet no bounds
pub free_is_met : (last : ℕ) (bounds : Bounds) (values : ℕ → ℤ) → ((x y : ℕ) → x ≤ last → y ≤ last → bounds x y ≡ no_bounds x y) → values 0 ≡ pos 0 → Meets last bounds values
free_is_met last bounds values free zero_is = record {
  zero_is = zero_is;
  each = λ x y i j. subst (λ o. IsWithin o (values x -ℤ values y)) (sym (free x y i j)) (by x y (nat_eq x y) refl);
}
  where
    by : (x y : ℕ) (b : Bool) → nat_eq x y ≡ b → IsWithin (if b then Some (pos 0) else None) (values x -ℤ values y)
    by x y false e = tt
    by x y true e = subst (λ z. (values x -ℤ values z) ≤ℤ pos 0) (same x y e) (nothing (values x))
      where
        same : (x y : ℕ) → nat_eq x y ≡ true → x ≡ y
        same x y e = grind (arith, e)

        nothing : (n : ℤ) → (n -ℤ n) ≤ℤ pos 0
        nothing n = omega (arith, ints)

pub free_has_bits : (bits last : ℕ) (bounds : Bounds) → ((x y : ℕ) → x ≤ last → y ≤ last → bounds x y ≡ no_bounds x y) → HaveBits bits last bounds
free_has_bits bits last bounds free = λ x y i j. subst (λ o. HasBits bits o) (sym (free x y i j)) (by (nat_eq x y))
  where
    by : (b : Bool) → HasBits bits (if b then Some (pos 0) else None)
    by false = tt
    by true = pow_pos bits

-- a bound that is added is met, and so are all that stood
pub bounded_is_met : (last : ℕ) (before after : Bounds) (x y : ℕ) (c : ℤ) (values : ℕ → ℤ) → x ≤ last → y ≤ last → after x y ≡ narrower (before x y) (Some c) →
    ((i j : ℕ) → (i ≢ x) ⊎ (j ≢ y) → after i j ≡ before i j) → Meets last after values ↔ (Meets last before values × ((values x -ℤ values y) ≤ℤ c))
bounded_is_met last before after x y c values hx hy here elsewhere = (
  λ m. (record { zero_is = m.zero_is; each = λ i j p q. old m i j p q (same_or_not i x) (same_or_not j y) }, new m),
  λ p. record { zero_is = p.0.zero_is; each = λ i j h k. both p.0 p.1 i j h k (same_or_not i x) (same_or_not j y) },
)
  where
    new : Meets last after values → (values x -ℤ values y) ≤ℤ c
    new m = within_second (before x y) (Some c) _ (subst (λ o. IsWithin o (values x -ℤ values y)) here (m.each x y hx hy))

    old : Meets last after values → (i j : ℕ) → i ≤ last → j ≤ last → (i ≡ x) ⊎ (i ≢ x) → (j ≡ y) ⊎ (j ≢ y) → IsWithin (before i j) (values i -ℤ values j)
    old m i j p q (inr ne) d = subst (λ o. IsWithin o (values i -ℤ values j)) (elsewhere i j (inl ne)) (m.each i j p q)
    old m i j p q (inl e) (inr ne) = subst (λ o. IsWithin o (values i -ℤ values j)) (elsewhere i j (inr ne)) (m.each i j p q)
    old m i j p q (inl e) (inl f) = subst (λ a. IsWithin (before a j) (values a -ℤ values j)) (sym e) (subst (λ b. IsWithin (before x b) (values x -ℤ values b)) (sym f)
        (within_first (before x y) (Some c) _ (subst (λ o. IsWithin o (values x -ℤ values y)) here (m.each x y hx hy))))

    both : Meets last before values → (values x -ℤ values y) ≤ℤ c → (i j : ℕ) → i ≤ last → j ≤ last → (i ≡ x) ⊎ (i ≢ x) → (j ≡ y) ⊎ (j ≢ y) → IsWithin (after i j) (values i -ℤ values j)
    both m h i j p q (inr ne) d = subst (λ o. IsWithin o (values i -ℤ values j)) (sym (elsewhere i j (inl ne))) (m.each i j p q)
    both m h i j p q (inl e) (inr ne) = subst (λ o. IsWithin o (values i -ℤ values j)) (sym (elsewhere i j (inr ne))) (m.each i j p q)
    both m h i j p q (inl e) (inl f) = subst (λ a. IsWithin (after a j) (values a -ℤ values j)) (sym e) (subst (λ b. IsWithin (after x b) (values x -ℤ values b)) (sym f)
        (subst (λ o. IsWithin o (values x -ℤ values y)) (sym here) (within_narrower (before x y) (Some c) _ (m.each x y hx hy) h)))

pub bounded_has_bits : (bits last : ℕ) (before after : Bounds) (x y : ℕ) (c : ℤ) → after x y ≡ narrower (before x y) (Some c) → ((i j : ℕ) → (i ≢ x) ⊎ (j ≢ y) → after i j ≡ before i j) →
    unsigned_abs c < 2 ^ bits → HaveBits bits last before → HaveBits bits last after
bounded_has_bits bits last before after x y c here elsewhere small h = λ i j p q. by i j p q (same_or_not i x) (same_or_not j y)
  where
    either : (o : Option ℤ) → HasBits bits o → HasBits bits (narrower o (Some c))
    either None s = small
    either (Some d) s = chosen (int_le d c)
      where
        chosen : (b : Bool) → HasBits bits (if b then Some d else Some c)
        chosen true = s
        chosen false = small

    by : (i j : ℕ) → i ≤ last → j ≤ last → (i ≡ x) ⊎ (i ≢ x) → (j ≡ y) ⊎ (j ≢ y) → HasBits bits (after i j)
    by i j p q (inr ne) d = subst (λ o. HasBits bits o) (sym (elsewhere i j (inl ne))) (h i j p q)
    by i j p q (inl e) (inr ne) = subst (λ o. HasBits bits o) (sym (elsewhere i j (inr ne))) (h i j p q)
    by i j p q (inl e) (inl f) = subst (λ a. HasBits bits (after a j)) (sym e) (subst (λ b. HasBits bits (after x b)) (sym f)
        (subst (λ o. HasBits bits o) (sym here) (either (before x y) (h x y (subst (λ a. a ≤ last) e p) (subst (λ b. b ≤ last) f q)))))
