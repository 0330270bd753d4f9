-- One round alone: what it keeps.
use Rattle.std.proofs.Common.{◌≡◌, sym, subst, arith, ◌<◌, ◌≤◌, ℕ, suc, ℤ, ◌↔◌}
use Rattle.kp_diff.specs.Bounds.{Meets, HasBits, HaveBits}
use Rattle.kp_diff.specs.Rows.{Rows, bound_in, eliminated, IsSound, IsSquare, FitsSums, IsRoundUpTo}
use Rattle.kp_diff.proofs.Rounds.{everywhere, bits_everywhere}
use Rattle.kp_diff.proofs.Sizes.{bits_round, sums_fit}
use Rattle.kp_diff.proofs.Values.{round_keeps, round_adds_none, met_is_sound, met_alike}

less : (a b : ℕ) → a < suc b → a ≤ b
less a b h = omega arith

pub pass_same : (size : ℕ) (before after : Rows) (k : ℕ) → k < suc size → IsSquare (suc size) before → IsRoundUpTo (suc size) before after k (suc size) →
    (values : ℕ → ℤ) → Meets size (bound_in before) values ↔ Meets size (bound_in after) values
pass_same size before after k below q r values = (
  λ m. met_alike size (eliminated (bound_in before) k) (bound_in after) values (λ x y. sym (e x y)) (round_keeps size (bound_in before) values k (less k size below) m),
  λ m. round_adds_none size (bound_in before) values k (met_alike size (bound_in after) (eliminated (bound_in before) k) values e m),
)
  where
    e : (x y : ℕ) → bound_in after x y ≡ eliminated (bound_in before) k x y
    e = everywhere (suc size) before after k below q r

pub pass_bits : (size : ℕ) (before after : Rows) (k : ℕ) → k < suc size → IsSquare (suc size) before → IsRoundUpTo (suc size) before after k (suc size) →
    (bits : ℕ) → HaveBits bits size (bound_in before) → HaveBits (suc bits) size (bound_in after)
pass_bits size before after k below q r bits h x y i j = subst (λ o. HasBits (suc bits) o) (sym (everywhere (suc size) before after k below q r x y))
    (bits_round bits (bound_in before) k x y (bits_everywhere size before bits q h))

pub pass_none : (size : ℕ) (before : Rows) (k : ℕ) → k < suc size → ¬ IsSound (bound_in before k k) → (values : ℕ → ℤ) → ¬ Meets size (bound_in before) values
pass_none size before k below unsound values m = unsound (met_is_sound size (bound_in before) values k (less k size below) m)

pub pass_fits : (size : ℕ) (before : Rows) (k bits : ℕ) → bits < 127 → IsSquare (suc size) before → HaveBits bits size (bound_in before) → (x y : ℕ) → FitsSums (bound_in before x k) (bound_in before k y)
pass_fits size before k bits few q h x y = sums_fit bits (bound_in before x k) (bound_in before k y) few (bits_everywhere size before bits q h x k) (bits_everywhere size before bits q h k y)
