use Rattle.std.proofs.Common.{◌≡◌, ◌<◌, ◌≤◌, ℕ, suc, length}
use Rattle.kp_diff.specs.Bounds.{no_bounds}
use Rattle.kp_diff.specs.Rows.{rows_of, bound_in, IsSquare}
use Rattle.kp_diff.proofs.rows.free_all.Given as goal

abbrev pub invariant-loop-x : goal.invariant-loop-x
invariant-loop-x l = (length l.rows ≡ suc l.fn.size) × IsSquare (suc l.fn.size) (rows_of l.rows) × ((x y : ℕ) → x < l.x → y ≤ l.fn.size → bound_in (rows_of l.rows) x y ≡ no_bounds x y)
