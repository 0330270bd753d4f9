use Rattle.std.proofs.Common.{◌≡◌, length}
use Rattle.kp_diff.specs.Rows.{rows_of, IsRoundUpTo}
use Rattle.kp_diff.proofs.elimination.round.Given as goal

abbrev pub invariant-loop-x : goal.invariant-loop-x
invariant-loop-x l = (length l.rows ≡ length l.fn.rows) × IsRoundUpTo (length l.fn.rows) (rows_of l.fn.rows) (rows_of l.rows) l.fn.k l.x
