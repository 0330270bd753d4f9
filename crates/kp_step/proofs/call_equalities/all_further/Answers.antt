use Rattle.std.proofs.Common.{subst}
use Rattle.std.specs.Prelude.{IfSome}
use Rattle.kp_signature.specs.View.{signature_view}
use Rattle.kp_symbolic.specs.View.{state_view}
use Rattle.kp_step.specs.Implied.{CanBeAsWell}
use Rattle.kp_step.proofs.ImpliedLemmas.{as_well_itself, as_well_on}
use Rattle.kp_step.proofs.call_equalities.all_further.Goals as goal

pub loop-round-init : goal.loop-round-init
loop-round-init c = as_well_itself (signature_view c.args.signature.now) (state_view c.args.state)

pub loop-round-preserved : goal.loop-round-preserved
loop-round-preserved c =
    let g = signature_view c.args.signature.now in
    let s = state_view c.args.state in
    let r = state_view c.loop-round.all in
    let on = subst (λ o. IfSome o (λ x. CanBeAsWell g r (state_view x))) c.in-Some.is c.in_ok-more.ensures in
    as_well_on g s r (state_view c.in-Some.more) c.loop-round.invariant on
