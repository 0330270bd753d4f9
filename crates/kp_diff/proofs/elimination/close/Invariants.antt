use Rattle.std.proofs.Common.{◌≡◌, suc, length}
use Rattle.kp_diff.specs.Rows.{rows_of}
use Rattle.kp_diff.proofs.Rounds.{IsClosedUpTo}
use Rattle.kp_diff.proofs.elimination.close.Given as goal

abbrev pub invariant-loop-k : goal.invariant-loop-k
invariant-loop-k l = (length l.rows ≡ suc l.fn.size) × IsClosedUpTo l.fn.size (rows_of l.fn.rows) (rows_of l.rows) l.k
