use Rattle.std.proofs.Common.{map}
use Rattle.kp_ground.specs.View.{value_view}
use Rattle.kp_unify.specs.Forms.{members_view}
use Rattle.kp_unify.proofs.ClashLemmas.{IsAmongRest, ValuesDiffer}
use Rattle.kp_unify.proofs.clash.+clash_with.Given as goal

abbrev pub invariant-some_clash_with-loop-place : goal.invariant-some_clash_with-loop-place
invariant-some_clash_with-loop-place l = IsAmongRest ValuesDiffer (members_view l.members) (map value_view l.values) l.place
