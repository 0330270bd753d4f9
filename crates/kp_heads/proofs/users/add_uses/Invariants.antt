use Rattle.std.proofs.Common.{take}
use Rattle.kp_heads.specs.Rows.{HasUses}
use Rattle.kp_heads.proofs.users.add_uses.Given as goal

abbrev pub invariant-loop-number : goal.invariant-loop-number
invariant-loop-number l = HasUses l.fn.users.items l.users.items (take l.number-index l.numbers) l.place
