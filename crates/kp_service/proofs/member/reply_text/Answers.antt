use Rattle.std.proofs.Common.{refl, Some}
use Rattle.kp_conn.proofs.Conversing.{at_err}
use Rattle.kp_rpc.specs.View.{id_view}
use Rattle.kp_requests.specs.View.{asked_view}
use Rattle.kp_service.specs.Batches.{call_of, IsMemberText, IsReplyLine}
use Rattle.kp_service.proofs.Batching.{member_of_line, weaker}
use Rattle.kp_service.proofs.member.reply_text.Goals as goal

pub returns-clause-told : goal.returns-clause-told
returns-clause-told g c =
    let id = id_view c.args.id.now in
    let call = call_of (Some id) (asked_view c.args.asked) in
    weaker c.args.registry.now c.args.pass.now c.reply_line.new.pass (λ o seen. IsReplyLine o seen id call.asked c.in_ok-line.line.items) (λ o seen. IsMemberText o seen call (Some c.text_of.result.items))
    (λ o seen after h. member_of_line o seen after call id c.in_ok-line.line.items c.text_of.result.items refl h c.text_of.ensures) c.in_ok-line.ensures.told

pub returns-in_err-line-clause-left : goal.returns-in_err-line-clause-left
returns-in_err-line-clause-left g c = at_err c.from_residual.result _ c.in_err-line.ensures.left
