-- How many bits bounds have: a sum has one more, and below 127 bits it is a number of the code.
use Rattle.std.proofs.Common.{◌≡◌, sym, subst, arith, ℕ, suc, [], get_or, length, ◌≤◌, ◌<◌, ◌+◌, ◌-◌, ◌*◌, ◌^◌, ℤ, pos, negsuc, ◌+ℤ◌, ◌-ℤ◌, neg_ℤ, ◌≤ℤ◌, ◌<ℤ◌, Some, None, Option, Bool, true, false, ◌⊎◌, inl, inr}
use Rattle.std.specs.Prelude.{int_le, if◌then◌else◌, FitsSigned, unsigned_abs}
use Rattle.std.specs.Int.{w128}
use Rattle.std.proofs.lemmas.Int.{ints}
use Rattle.std.proofs.Math.Nat.{pow-succ'}
use Rattle.std.proofs.Math.Pow.{pow_mono}
use Rattle.std.proofs.lemmas.Nat.{pow_pos}
use Rattle.kp_diff.specs.Bounds.{Bounds, summed, narrower, IsBelow, HasBits, HaveBits, IsWithinWeight}
use Rattle.kp_diff.specs.Rows.{Rows, bound_in, eliminated, FitsSums, IsLeast, IsSquare}

above_and_below : (n : ℕ) (c : ℤ) → unsigned_abs c < n → (neg_ℤ (pos n) <ℤ c) × (c <ℤ pos n)
above_and_below n (pos m) h = (omega (arith, ints), omega (arith, ints))
above_and_below n (negsuc m) h = (omega (arith, ints), omega (arith, ints))

without_sign : (n : ℕ) (c : ℤ) → (neg_ℤ (pos n) <ℤ c) × (c <ℤ pos n) → unsigned_abs c < n
without_sign n (pos m) h = under n m h.1
  where
    under : (n m : ℕ) → pos m <ℤ pos n → m < n
    under n m k = omega (arith, ints)
without_sign n (negsuc m) h = over n m h.0
  where
    over : (n m : ℕ) → neg_ℤ (pos n) <ℤ negsuc m → suc m < n
    over n m k = omega (arith, ints)

bits_sum : (w : ℕ) (o p : Option ℤ) → HasBits w o → HasBits w p → HasBits (suc w) (summed o p)
bits_sum w None p h k = tt
bits_sum w (Some c) None h k = tt
bits_sum w (Some c) (Some d) h k = subst (λ n. unsigned_abs (c +ℤ d) < n) (sym (pow-succ' 2 w)) (without_sign (2 * 2 ^ w) (c +ℤ d) (both (2 ^ w) c d (above_and_below (2 ^ w) c h) (above_and_below (2 ^ w) d k)))
  where
    both : (n : ℕ) (c d : ℤ) → (neg_ℤ (pos n) <ℤ c) × (c <ℤ pos n) → (neg_ℤ (pos n) <ℤ d) × (d <ℤ pos n) → (neg_ℤ (pos (2 * n)) <ℤ (c +ℤ d)) × ((c +ℤ d) <ℤ pos (2 * n))
    both n c d a b = twice n c d a.0 a.1 b.0 b.1
      where
        twice : (n : ℕ) (c d : ℤ) → neg_ℤ (pos n) <ℤ c → c <ℤ pos n → neg_ℤ (pos n) <ℤ d → d <ℤ pos n → (neg_ℤ (pos (2 * n)) <ℤ (c +ℤ d)) × ((c +ℤ d) <ℤ pos (2 * n))
        twice n c d a b e f = (omega (arith, ints), omega (arith, ints))

pub bits_more : (w v : ℕ) (o : Option ℤ) → w ≤ v → HasBits w o → HasBits v o
bits_more w v None h k = tt
bits_more w v (Some c) h k = wider (unsigned_abs c) (2 ^ w) (2 ^ v) k (pow_mono h)
  where
    wider : (a n m : ℕ) → a < n → n ≤ m → a < m
    wider a n m h k = omega arith

pub bits_round : (w : ℕ) (bounds : Bounds) (k x y : ℕ) → ((x y : ℕ) → HasBits w (bounds x y)) → HasBits (suc w) (eliminated bounds k x y)
bits_round w bounds k x y h = bits_narrower (bounds x y) (summed (bounds x k) (bounds k y)) (bits_more w (suc w) (bounds x y) (less w) (h x y)) (bits_sum w (bounds x k) (bounds k y) (h x k) (h k y))
  where
    less : (n : ℕ) → n ≤ suc n
    less n = omega arith

    bits_narrower : (o p : Option ℤ) → HasBits (suc w) o → HasBits (suc w) p → HasBits (suc w) (narrower o p)
    bits_narrower None p s t = t
    bits_narrower (Some c) None s t = s
    bits_narrower (Some c) (Some d) s t = by_bool (int_le c d)
      where
        by_bool : (b : Bool) → HasBits (suc w) (if b then Some c else Some d)
        by_bool true = s
        by_bool false = t

-- 127 bits and a sign
pub fits : (c : ℤ) → HasBits 127 (Some c) → FitsSigned w128 c
fits (pos n) h = record { sfits = h }
fits (negsuc n) h = record { sfits = less n (2 ^ 127) h }
  where
    less : (a b : ℕ) → suc a < b → a < b
    less a b k = omega arith

pub sums_fit : (w : ℕ) (o p : Option ℤ) → w < 127 → HasBits w o → HasBits w p → FitsSums o p
sums_fit w None p below h k = tt
sums_fit w (Some c) None below h k = tt
sums_fit w (Some c) (Some d) below h k = fits (c +ℤ d) (bits_more (suc w) 127 (Some (c +ℤ d)) (more w below) (bits_sum w (Some c) (Some d) h k))
  where
    more : (n : ℕ) → n < 127 → suc n ≤ 127
    more n b = omega arith

-- the least of zero and a row is above the least number of so many bits
least_above : (n count : ℕ) (row : ℕ → Option ℤ) (a : ℤ) → 0 < n → ((c : ℤ) (y : ℕ) → y < count → row y ≡ Some c → neg_ℤ (pos n) <ℤ c) → IsLeast count row a → neg_ℤ (pos n) <ℤ a
least_above n count row a some h l = by l.is
  where
    at_zero : (n : ℕ) (a : ℤ) → 0 < n → a ≡ pos 0 → neg_ℤ (pos n) <ℤ a
    at_zero n a k e = omega (arith, ints)

    by : (a ≡ pos 0) ⊎ ((y : ℕ) × (y < count) × (row y ≡ Some a)) → neg_ℤ (pos n) <ℤ a
    by (inl e) = at_zero n a some e
    by (inr p) = h a p.0 p.1 p.2

pub difference_fits : (size : ℕ) (bounds : Bounds) (x y : ℕ) (a b : ℤ) → x ≤ size → y ≤ size → HaveBits 127 size bounds → IsLeast (suc size) (bounds x) a → IsLeast (suc size) (bounds y) b → FitsSigned w128 (a -ℤ b)
difference_fits size bounds x y a b i j h k l = fits (a -ℤ b) (without_sign (2 ^ 127) (a -ℤ b) (apart (2 ^ 127) a b k.most l.most (above x a i k) (above y b j l)))
  where
    less : (m : ℕ) → m < suc size → m ≤ size
    less m k = omega arith

    apart : (n : ℕ) (a b : ℤ) → a ≤ℤ pos 0 → b ≤ℤ pos 0 → neg_ℤ (pos n) <ℤ a → neg_ℤ (pos n) <ℤ b → (neg_ℤ (pos n) <ℤ (a -ℤ b)) × ((a -ℤ b) <ℤ pos n)
    apart n a b h k i j = (omega (arith, ints), omega (arith, ints))

    above : (x : ℕ) (a : ℤ) → x ≤ size → IsLeast (suc size) (bounds x) a → neg_ℤ (pos (2 ^ 127)) <ℤ a
    above x a i l = least_above (2 ^ 127) (suc size) (bounds x) a (pow_pos 127) (λ c m k e. (above_and_below (2 ^ 127) c (subst (λ o. HasBits 127 o) e (h x m i (less m k)))).0) l

-- what a test of every bound says of the weight
pub weight_is : (size : ℕ) (rows : Rows) → size ≤ 126 → IsSquare (suc size) rows → ((x : ℕ) → x < suc size → (y : ℕ) → y < length (get_or rows x []) → IsBelow (2 ^ (126 - size)) (bound_in rows x y)) → IsWithinWeight size (bound_in rows)
weight_is size rows light q h = record {
  bits = 126 - size;
  weight = together size light;
  each = λ x y i j. h x (one_more x size i) y (subst (λ n. y < n) (sym (q.each_long x (one_more x size i))) (one_more y size j));
}
  where
    together : (s : ℕ) → s ≤ 126 → s + (126 - s) ≤ 126
    together s l = omega arith

    one_more : (a b : ℕ) → a ≤ b → a < suc b
    one_more a b l = omega arith

pub weight_means : (size : ℕ) (rows : Rows) → IsSquare (suc size) rows → IsWithinWeight size (bound_in rows) → (x : ℕ) → x < suc size → (y : ℕ) → y < length (get_or rows x []) → IsBelow (2 ^ (126 - size)) (bound_in rows x y)
weight_means size rows q w x i y j = bits_more w.bits (126 - size) (bound_in rows x y) (rest size w.bits w.weight) (w.each x y (less x i) (less y (subst (λ n. y < n) (q.each_long x i) j)))
  where
    rest : (s b : ℕ) → s + b ≤ 126 → b ≤ 126 - s
    rest s b l = omega arith

    less : (a : ℕ) → a < suc size → a ≤ size
    less a l = omega arith
