use Rattle.std.proofs.Common.{map}
use Rattle.kp_symbolic.specs.View.{term_view}
use Rattle.kp_unify.specs.Clash.{StandsOnTwo}
use Rattle.kp_unify.specs.Forms.{form_view, members_view}
use Rattle.kp_unify.proofs.ClashLemmas.{IsAmongRest, OneHolds}
use Rattle.kp_unify.proofs.repeats.+here.Given as goal

abbrev pub invariant-some_differs-loop-place : goal.invariant-some_differs-loop-place
invariant-some_differs-loop-place l = IsAmongRest (OneHolds (StandsOnTwo (form_view l.left) (term_view l.all))) (members_view l.members) (map term_view l.terms) l.place
