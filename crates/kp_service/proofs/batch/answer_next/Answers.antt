use Rattle.std.proofs.Common.{ap, ◌∷◌, [], ◌∙◌}
use Rattle.std.specs.Option.{option_map}
use Rattle.kp_conn.proofs.Conversing.{at_err, when_ok}
use Rattle.kp_requests.specs.View.{call_view}
use Rattle.kp_service.specs.Answers.{IsFront}
use Rattle.kp_service.specs.Batches.{IsMemberText, IsNextTold, text_with}
use Rattle.kp_service.proofs.Batching.{front_of_text, looked_front, next_none, next_some, weaker}
use Rattle.kp_service.proofs.batch.answer_next.Goals as goal

pub returns-in-Some-clause-told : goal.returns-in-Some-clause-told
returns-in-Some-clause-told g c =
    let call = call_view c.args.call in
    let told = option_map (λ text. text.items) c.in_ok-told.told in
    when_ok c.add_reply.result _ _ c.add_reply.ensures
    (λ then. weaker c.args.registry.now c.args.pass.now c.answered.new.pass (λ o seen. IsMemberText o seen call told) (λ o seen. IsNextTold o seen call c.args.replies.now.items c.add_reply.new.replies.items)
    (λ o book after h. next_some o book after call c.args.replies.now.items c.add_reply.new.replies.items c.in-Some.reply.items told (ap (option_map (λ text. text.items)) c.in-Some.is) (then ∙ ap (text_with c.args.replies.now.items) c.deref.ensures.value) h) c.in_ok-told.ensures.told)

pub returns-in-Some-clause-begun : goal.returns-in-Some-clause-begun
returns-in-Some-clause-begun g c =
    let call = call_view c.args.call in
    let told = option_map (λ text. text.items) c.in_ok-told.told in
    at_err c.add_reply.result _ (weaker c.args.registry.now c.args.pass.now c.answered.new.pass (λ o seen. IsMemberText o seen call told) (λ o seen. IsFront o seen (call ∷ [])) (λ o book after h. front_of_text o book after call told h) c.in_ok-told.ensures.told)

pub returns-in-None-clause-told : goal.returns-in-None-clause-told
returns-in-None-clause-told g c =
    let call = call_view c.args.call in
    let told = option_map (λ text. text.items) c.in_ok-told.told in
    weaker c.args.registry.now c.args.pass.now c.answered.new.pass (λ o seen. IsMemberText o seen call told) (λ o seen. IsNextTold o seen call c.args.replies.now.items c.args.replies.now.items)
    (λ o book after h. next_none o book after call c.args.replies.now.items told (ap (option_map (λ text. text.items)) c.in-None.is) h) c.in_ok-told.ensures.told

pub returns-in_err-told-clause-begun : goal.returns-in_err-told-clause-begun
returns-in_err-told-clause-begun g c = at_err c.from_residual.result _ (looked_front c.args.registry.now c.args.pass.now c.answered.new.pass (call_view c.args.call ∷ []) c.answered.ensures.pass c.in_err-told.ensures.left)
