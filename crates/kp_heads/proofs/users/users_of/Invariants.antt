use Rattle.kp_heads.proofs.Uses.{AreUsersBefore}
use Rattle.kp_heads.proofs.users.users_of.Given as goal

abbrev pub invariant-loop-place : goal.invariant-loop-place
invariant-loop-place l = AreUsersBefore l.rows l.fn.count l.place l.users.items
