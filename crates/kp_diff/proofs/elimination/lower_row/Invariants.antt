use Rattle.std.proofs.Common.{◌≡◌, length}
use Rattle.kp_diff.specs.Rows.{rows_of, IsRowUpTo}
use Rattle.kp_diff.proofs.elimination.lower_row.Given as goal

abbrev pub invariant-loop-y : goal.invariant-loop-y
invariant-loop-y l = (length l.rows ≡ length l.fn.rows) × IsRowUpTo (length l.fn.rows) (rows_of l.fn.rows) (rows_of l.rows) l.fn.k l.fn.x l.y
