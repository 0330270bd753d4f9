use Rattle.std.proofs.Common.{map}
use Rattle.kp_ground.specs.View.{value_view}
use Rattle.kp_symbolic.specs.View.{term_view}
use Rattle.kp_unify.specs.Clash.{StandsOnOther}
use Rattle.kp_unify.specs.Forms.{members_view}
use Rattle.kp_unify.proofs.ClashLemmas.{IsAmongRest, OneHolds}
use Rattle.kp_unify.proofs.repeats.+other.Given as goal

abbrev pub invariant-some_stands_for_other-loop-place : goal.invariant-some_stands_for_other-loop-place
invariant-some_stands_for_other-loop-place l = IsAmongRest (OneHolds (StandsOnOther l.name (value_view l.value))) (members_view l.members) (map term_view l.terms) l.place
