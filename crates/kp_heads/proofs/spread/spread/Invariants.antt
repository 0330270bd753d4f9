use Rattle.std.proofs.Common.{◌^◌, ◌-◌, take}
use Rattle.kp_heads.specs.Rows.{AreUsers}
use Rattle.kp_heads.proofs.Rows.{Spreading}
use Rattle.kp_heads.proofs.spread.spread.Given as goal

abbrev pub invariant-loop-next : goal.invariant-loop-next
invariant-loop-next l = AreUsers l.rows l.users → Spreading l.rows l.fn.found.keys (take l.next l.found.keys) l.found.keys

abbrev pub decreases-loop-next : goal.decreases-loop-next
decreases-loop-next l = 2 ^ 64 - l.next
