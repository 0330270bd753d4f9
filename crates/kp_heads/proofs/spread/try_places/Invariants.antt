use Rattle.std.proofs.Common.{take}
use Rattle.kp_heads.specs.Rows.{Woken}
use Rattle.kp_heads.proofs.spread.try_places.Given as goal

abbrev pub invariant-loop-place : goal.invariant-loop-place
invariant-loop-place l = Woken l.rows (take l.place-index l.places) l.fn.found.keys l.found.keys
