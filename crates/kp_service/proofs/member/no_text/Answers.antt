use Rattle.std.proofs.Common.{refl, None}
use Rattle.kp_conn.proofs.Conversing.{at_err}
use Rattle.kp_requests.specs.View.{asked_view}
use Rattle.kp_service.specs.Batches.{call_of, IsEffect, IsMemberText}
use Rattle.kp_service.proofs.Batching.{member_of_effect, weaker}
use Rattle.kp_service.proofs.member.no_text.Goals as goal

pub returns-clause-told : goal.returns-clause-told
returns-clause-told g c =
    let call = call_of None (asked_view c.args.asked) in
    weaker c.args.registry.now c.args.pass.now c.take_effect.new.pass (λ o seen. IsEffect o seen call.asked) (λ o seen. IsMemberText o seen call None)
    (λ o seen after h. member_of_effect o seen after call refl h) c.in_ok-take_effect.ensures.done

pub returns-in_err-take_effect-clause-left : goal.returns-in_err-take_effect-clause-left
returns-in_err-take_effect-clause-left g c = at_err c.from_residual.result _ c.in_err-take_effect.ensures.left
