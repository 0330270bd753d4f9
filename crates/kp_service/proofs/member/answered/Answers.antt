use Rattle.std.proofs.Common.{ap, None, Some}
use Rattle.std.proofs.lemmas.Result.{IfOk-weaker}
use Rattle.std.specs.Option.{option_map}
use Rattle.kp_rpc.specs.View.{id_view}
use Rattle.kp_requests.specs.View.{asked_view}
use Rattle.kp_service.proofs.Batching.{with_id}
use Rattle.kp_service.proofs.member.answered.Goals as goal

pub returns-in-Some-clause-told : goal.returns-in-Some-clause-told
returns-in-Some-clause-told g c =
    IfOk-weaker c.reply_text.result _ _ (λ reply h. with_id c.args.registry.now c.args.pass.now c.reply_text.new.pass (option_map id_view c.args.call.id) (Some (id_view c.in-Some.id)) (asked_view c.args.call.asked) (option_map (λ text. text.items) reply) (ap (option_map id_view) c.in-Some.is) h) c.reply_text.ensures.told

pub returns-in-None-clause-told : goal.returns-in-None-clause-told
returns-in-None-clause-told g c =
    IfOk-weaker c.no_text.result _ _ (λ reply h. with_id c.args.registry.now c.args.pass.now c.no_text.new.pass (option_map id_view c.args.call.id) None (asked_view c.args.call.asked) (option_map (λ text. text.items) reply) (ap (option_map id_view) c.in-None.is) h) c.no_text.ensures.told
