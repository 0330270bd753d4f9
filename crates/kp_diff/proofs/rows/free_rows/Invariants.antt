use Rattle.std.proofs.Common.{◌≡◌, ◌<◌, ◌≤◌, ℕ, suc, length, get_or, [], None}
use Rattle.kp_diff.specs.Bounds.{no_bounds}
use Rattle.kp_diff.specs.Rows.{rows_of}
use Rattle.kp_diff.proofs.rows.free_rows.Given as goal

abbrev pub invariant-loop-x : goal.invariant-loop-x
invariant-loop-x l = (length l.rows.items ≡ l.x) × ((x : ℕ) → x < l.x → (length (get_or (rows_of l.rows.items) x []) ≡ suc l.fn.size) × ((y : ℕ) → y ≤ l.fn.size → get_or (get_or (rows_of l.rows.items) x []) y None ≡ no_bounds x y))
