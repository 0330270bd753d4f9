use Rattle.std.proofs.Common.{◌≡◌, length}
use Rattle.kp_heads.proofs.users.no_users.Given as goal

abbrev pub invariant-loop-i : goal.invariant-loop-i
invariant-loop-i l = length l.users.items ≡ l._i
