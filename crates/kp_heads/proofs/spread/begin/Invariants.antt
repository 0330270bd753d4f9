use Rattle.std.proofs.Common.{take}
use Rattle.kp_heads.specs.Rows.{Began}
use Rattle.kp_heads.proofs.spread.begin.Given as goal

abbrev pub invariant-loop-row : goal.invariant-loop-row
invariant-loop-row l = Began l.rows (take l.row-index l.rows) l.fn.found.keys l.found.keys
