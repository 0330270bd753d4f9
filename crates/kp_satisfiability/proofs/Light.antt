-- Clauses that no weight of which is above its limit have few numeric variables and digits.
use Rattle.std.proofs.Common.{arith, ◌≡◌, refl, ap, subst, ℕ, zero, suc, pred, ◌+◌, ◌<◌, ◌≤◌, ◌^◌, Bool, true, false, List, length}
use Rattle.std.specs.Prelude.{nat_lt}
use Rattle.std.proofs.Math.Nat.{pow-succ'}
use Rattle.kp_symbolic.specs.Plain.{ReadLiteral}
use Rattle.kp_symbolic.specs.Weights.{IsBitLength, all_bounds, largest, numeric_names, Weight, bits, IsOver}

grows : (m : ℕ) → m < 2 ^ m
grows zero = omega arith
grows (suc m) = let on = grows m in let twice = pow-succ' 2 m in omega (arith, on, twice)

least_above : (m n : ℕ) → m < 2 ^ n → (k : ℕ) × IsBitLength m k
least_above m zero h = (0, record { enough = h; least = λ k e. absurd (cc) })
least_above m (suc n) h = by (nat_lt m (2 ^ n)) refl (least_above m n)
  where
    by : (t : Bool) → nat_lt m (2 ^ n) ≡ t → (m < 2 ^ n → (k : ℕ) × IsBitLength m k) → (k : ℕ) × IsBitLength m k
    by true e on = on (grind (arith, e))
    by false e on = (suc n, record { enough = h; least = λ k q. subst (λ j. 2 ^ j ≤ m) (ap pred q) (grind (arith, e)) })

-- each number is written with some number of digits
pub bit_length : (m : ℕ) → (k : ℕ) × IsBitLength m k
bit_length m = least_above m m (grows m)

pub record IsLight (cs : List (List ReadLiteral)) : Type 0 where
  pub digits : ℕ
  pub below : largest (all_bounds cs) < 2 ^ digits
  pub within : length (numeric_names (all_bounds cs)) + digits ≤ 126

pub is_light : (cs : List (List ReadLiteral)) → ((w : Weight) (n : ℕ) → ¬ IsOver w cs n) → IsLight cs
is_light cs none =
    let b = bit_length (largest (all_bounds cs)) in
    let n = length (numeric_names (all_bounds cs)) + b.0 in
    record { digits = b.0; below = b.1.enough; within = by n (nat_lt 126 n) refl (λ above. none bits n (record { weighs = (b.0, b.1, refl); above = above })) }
  where
    by : (n : ℕ) (t : Bool) → nat_lt 126 n ≡ t → (126 < n → ⊥) → n ≤ 126
    by n true e h = absurd (h (grind (arith, e)))
    by n false e h = grind (arith, e)
