use Rattle.std.proofs.Common.{◌≡◌, ℕ, length, pos}
use Rattle.kp_diff.specs.Rows.{value_in}
use Rattle.kp_diff.proofs.rows.zeros.Given as goal

abbrev pub invariant-loop : goal.invariant-loop
invariant-loop l = (length l.values.items ≡ l.counter) × ((x : ℕ) → value_in l.values.items x ≡ pos 0)
