-- Weights of written-out clauses.
use Rattle.std.proofs.Common.{◌≡◌, ap, subst, true, ℕ, suc, pred, ◌≤◌, ◌^◌}
use Rattle.std.specs.Prelude.{nat_lt, nat_le}
use Rattle.std.proofs.lemmas.Bool.{ltb-true, leb-true}
use Rattle.kp_symbolic.specs.Weights.{IsBitLength}

-- so many digits are needed where the number is at least the power before
pub has_digits : (m n : ℕ) → nat_lt m (2 ^ suc n) ≡ true → nat_le (2 ^ n) m ≡ true → IsBitLength m (suc n)
has_digits m n below above = record {
  enough = ltb-true m (2 ^ suc n) below;
  least = λ k e. subst (λ j. 2 ^ j ≤ m) (ap pred e) (leb-true (2 ^ n) m above);
}
