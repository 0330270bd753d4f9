use Rattle.std.proofs.Common.{◌≡◌, ◌<◌, ℕ, length, get_or, None}
use Rattle.kp_diff.specs.Bounds.{no_bounds}
use Rattle.kp_diff.proofs.rows.free_row.Given as goal

abbrev pub invariant-loop-y : goal.invariant-loop-y
invariant-loop-y l = (length l.row.items ≡ l.y) × ((y : ℕ) → y < l.y → get_or l.row.items y None ≡ no_bounds l.fn.x y)
