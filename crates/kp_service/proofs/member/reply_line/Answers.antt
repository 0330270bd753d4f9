use Rattle.std.proofs.Common.{ap, refl}
use Rattle.std.proofs.lemmas.Result.{IfOk-weaker}
use Rattle.kp_additions.proofs.Later.{looked_none}
use Rattle.kp_conn.proofs.Conversing.{at_err}
use Rattle.kp_rpc.specs.Reply.{error_reply}
use Rattle.kp_rpc.specs.View.{id_view, refusal_view}
use Rattle.kp_requests.specs.Requests.{asks, refused}
use Rattle.kp_requests.specs.View.{asked_view, request_view}
use Rattle.kp_service.proofs.Serving.{line_stays, lines_of}
use Rattle.kp_service.proofs.member.reply_line.Goals as goal

pub returns-in-Request-clause-told : goal.returns-in-Request-clause-told
returns-in-Request-clause-told g c =
    IfOk-weaker c.request_line.result _ _ (λ line h. lines_of c.args.registry.now c.args.pass.now c.request_line.new.pass (id_view c.args.id.now) (asked_view c.args.asked) (asks (request_view c.in-Request.request)) line.items (ap asked_view c.in-Request.is) h) c.request_line.ensures.told

pub returns-in-Refused-clause-told : goal.returns-in-Refused-clause-told
returns-in-Refused-clause-told g c =
    let id = id_view c.args.id.now in
    let e = refusal_view c.in-Refused.refusal in
    IfOk-weaker c.refusal_text.result _ _ (λ line l. lines_of c.args.registry.now c.args.pass.now c.args.pass.now id (asked_view c.args.asked) (refused e) line.items (ap asked_view c.in-Refused.is)
    (line_stays c.args.registry.now c.args.pass.now c.args.pass.now id (refused e) line.items c.requires.pass (looked_none c.args.pass.now) (λ o s seen. (error_reply id e, refl, l)))) c.refusal_text.ensures

pub returns-in-Refused-clause-left : goal.returns-in-Refused-clause-left
returns-in-Refused-clause-left g c = at_err c.refusal_text.result _ (looked_none c.args.pass.now)
