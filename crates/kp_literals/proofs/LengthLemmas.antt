-- How many binary digits numbers have.
use Rattle.std.proofs.Common.{◌≡◌, refl, sym, ap, subst, ◌∙◌, arith, ℕ, zero, suc, ◌+◌, ◌-◌, ◌*◌, ◌<◌, ◌≤◌, ◌^◌, max, Bool, true, false, ◌⊎◌, inl, inr}
use Rattle.std.specs.Prelude.{nat_le}
use Rattle.std.proofs.Math.Nat.{le-max_left, le-max_right, max-le, pow-le-pow_right, max-eq_left, max-eq_right, max-zero, zero-max}
use Rattle.std.proofs.lemmas.Nat.{leading_length}
use Rattle.std.specs.Int.Count.{count_leading_zeros}
use Rattle.std.proofs.lemmas.Bool.{ltb-true, leb-true}
use Rattle.kp_symbolic.specs.Weights.{IsBitLength}

pub length_is : (z m a : ℕ) → z + m ≡ 128 → a < 2 ^ m → 2 ^ m ≤ 2 * a + 1 → IsBitLength a (128 - z)
length_is z m a e below above = subst (λ k. IsBitLength a k) same (record { enough = below; least = λ k is. half k is })
  where
    same : m ≡ 128 - z
    same = omega (arith, e)

    half : (k : ℕ) → m ≡ suc k → 2 ^ k ≤ a
    half k is = let le : 2 ^ suc k ≤ 2 * a + 1 = subst (λ j. 2 ^ j ≤ 2 * a + 1) is above in omega (arith, le)

pub leading_is : (a : ℕ) → a < 2 ^ 128 → IsBitLength a (128 - count_leading_zeros 128 a)
leading_is a h = let p = leading_length 128 a h in length_is (count_leading_zeros 128 a) p.0 a p.1 p.2 p.3

-- the least number of 129 digits
pub widest : IsBitLength (2 ^ 128) 129
widest = record { enough = ltb-true (2 ^ 128) (2 ^ 129) refl; least = λ k e. least k e }
  where
    least : (k : ℕ) → 129 ≡ suc k → 2 ^ k ≤ 2 ^ 128
    least k e = let is : k ≡ 128 = omega (arith, e) in subst (λ j. 2 ^ j ≤ 2 ^ 128) (sym is) (leb-true (2 ^ 128) (2 ^ 128) refl)

pub none_long : IsBitLength 0 0
none_long = record { enough = omega arith; least = λ k e. absurd (no k e) }
  where
    no : (k : ℕ) → 0 ≡ suc k → ⊥
    no k e = omega (arith, e)

pub one_length : (m a b : ℕ) → IsBitLength m a → IsBitLength m b → a ≡ b
one_length m a b f h = by (order a b)
  where
    order : (a b : ℕ) → (a < b) ⊎ ((a ≡ b) ⊎ (b < a))
    order zero zero = inr (inl refl)
    order zero (suc b) = inl (omega arith)
    order (suc a) zero = inr (inr (omega arith))
    order (suc a) (suc b) = up (order a b)
      where
        up : (a < b) ⊎ ((a ≡ b) ⊎ (b < a)) → (suc a < suc b) ⊎ ((suc a ≡ suc b) ⊎ (suc b < suc a))
        up (inl l) = inl (omega (arith, l))
        up (inr (inl e)) = inr (inl (ap suc e))
        up (inr (inr l)) = inr (inr (omega (arith, l)))

    longer : (a b : ℕ) → m < 2 ^ a → ((k : ℕ) → b ≡ suc k → 2 ^ k ≤ m) → a < b → ⊥
    longer a zero i j l = omega (arith, l)
    longer a (suc b) i j l = let p : 2 ^ a ≤ 2 ^ b = pow-le-pow_right (omega arith) (omega (arith, l)) in let q = j b refl in omega (arith, p, q, i)

    by : (a < b) ⊎ ((a ≡ b) ⊎ (b < a)) → a ≡ b
    by (inl l) = absurd (longer a b f.enough h.least l)
    by (inr (inl e)) = e
    by (inr (inr l)) = absurd (longer b a h.enough f.least l)

other : (a b : ℕ) → nat_le a b ≡ false → b ≤ a
other a b t = grind (arith, t)

max_below : (x y p : ℕ) → x < p → y < p → max x y < p
max_below x y p i j = by (nat_le x y) refl
  where
    by : (t : Bool) → nat_le x y ≡ t → max x y < p
    by true t = subst (λ m. m < p) (sym (max-eq_right (leb-true x y t))) j
    by false t = subst (λ m. m < p) (sym (max-eq_left (other x y t))) i

pub both_lengths : (m n a b : ℕ) → IsBitLength m a → IsBitLength n b → IsBitLength (max m n) (max a b)
both_lengths m n a b f h = record {
  enough = max_below m n (2 ^ max a b) (le m (2 ^ a) (2 ^ max a b) (pow-le-pow_right (omega arith) (le-max_left a b)) f.enough) (le n (2 ^ b) (2 ^ max a b) (pow-le-pow_right (omega arith) (le-max_right a b)) h.enough);
  least = λ k e. least k e;
}
  where
    le : (x p q : ℕ) → p ≤ q → x < p → x < q
    le x p q i j = omega (arith, i, j)

    least : (k : ℕ) → max a b ≡ suc k → 2 ^ k ≤ max m n
    least k e = by (nat_le a b) refl
      where
        by : (t : Bool) → nat_le a b ≡ t → 2 ^ k ≤ max m n
        by true t = let i = h.least k (sym (max-eq_right (leb-true a b t)) ∙ e) in let j = le-max_right m n in omega (arith, i, j)
        by false t = let i = f.least k (sym (max-eq_left (other a b t)) ∙ e) in let j = le-max_left m n in omega (arith, i, j)

-- ---- the largest of several

abbrev pub Longest : ℕ → ℕ → ℕ → Type 0
Longest all rest length = (m : ℕ) × IsBitLength m length × (max m rest ≡ all)

max_behind : (m n r : ℕ) → max (max m n) r ≡ max m (max n r)
max_behind m n r = same (max (max m n) r) (max m (max n r))
    (max-le {k = max m (max n r)} (max-le {k = max m (max n r)} (le-max_left m (max n r)) (on n (max n r) (max m (max n r)) (le-max_left n r) (le-max_right m (max n r)))) (on r (max n r) (max m (max n r)) (le-max_right n r) (le-max_right m (max n r))))
    (max-le {k = max (max m n) r} (on m (max m n) (max (max m n) r) (le-max_left m n) (le-max_left (max m n) r)) (max-le {k = max (max m n) r} (on n (max m n) (max (max m n) r) (le-max_right m n) (le-max_left (max m n) r)) (le-max_right (max m n) r)))
  where
    on : (x y z : ℕ) → x ≤ y → y ≤ z → x ≤ z
    on x y z i j = omega (arith, i, j)

    same : (x y : ℕ) → x ≤ y → y ≤ x → x ≡ y
    same x y i j = omega (arith, i, j)

pub longest_none : (all : ℕ) → Longest all all 0
longest_none all = (0, none_long, zero-max all)

pub longest_more : (all n rest a b : ℕ) → IsBitLength n b → Longest all (max n rest) a → Longest all rest (max a b)
longest_more all n rest a b h l = (max l.0 n, both_lengths l.0 n a b l.1 h, max_behind l.0 n rest ∙ l.2)

pub longest_end : (all a : ℕ) → Longest all 0 a → IsBitLength all a
longest_end all a l = subst (λ m. IsBitLength m a) (sym (max-zero l.0) ∙ l.2) l.1
