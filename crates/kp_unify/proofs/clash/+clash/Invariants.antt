use Rattle.std.proofs.Common.{map}
use Rattle.kp_symbolic.specs.View.{term_view}
use Rattle.kp_unify.specs.Forms.{members_view}
use Rattle.kp_unify.proofs.ClashLemmas.{IsAmongRest, TermsDiffer}
use Rattle.kp_unify.proofs.clash.+clash.Given as goal

abbrev pub invariant-some_clash-loop-place : goal.invariant-some_clash-loop-place
invariant-some_clash-loop-place l = IsAmongRest TermsDiffer (members_view l.members) (map term_view l.terms) l.place
