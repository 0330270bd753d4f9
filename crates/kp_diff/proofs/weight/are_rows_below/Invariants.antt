use Rattle.std.proofs.Common.{◌<◌, ℕ, length, get_or, []}
use Rattle.kp_diff.specs.Bounds.{IsBelow}
use Rattle.kp_diff.specs.Rows.{rows_of, bound_in}
use Rattle.kp_diff.proofs.weight.are_rows_below.Given as goal

abbrev pub invariant-loop-row : goal.invariant-loop-row
invariant-loop-row l = (x : ℕ) → x < l.row-index → (y : ℕ) → y < length (get_or (rows_of l.rows) x []) → IsBelow l.fn.limit (bound_in (rows_of l.rows) x y)
