use Rattle.std.proofs.Common.{◌≡◌, ◌++◌, drop}
use Rattle.kp_diff.specs.Rows.{rows_of}
use Rattle.kp_diff.proofs.rows.copied_rows.Given as goal

abbrev pub invariant-loop-row : goal.invariant-loop-row
invariant-loop-row l = (rows_of l.copies.items ++ rows_of (drop l.row-index l.rows)) ≡ rows_of l.rows
