use Rattle.std.proofs.Common.{subst, Some}
use Rattle.std.proofs.lemmas.Result.{IfOk-weaker}
use Rattle.std.specs.Option.{option_map}
use Rattle.kp_additions.specs.Served.{HasSeenAt}
use Rattle.kp_additions.proofs.Later.{looked_none}
use Rattle.kp_conn.proofs.Conversing.{at_err, sees_same, when_err}
use Rattle.kp_requests.specs.Frames.{Asks}
use Rattle.kp_requests.specs.View.{call_view, calls_view, parsed_view}
use Rattle.kp_rpc.specs.View.{refusal_view}
use Rattle.kp_service.specs.Answers.{IsAnswer, IsBegun, IsFront, begun_together}
use Rattle.kp_service.specs.Batches.{AreMembersText, IsMemberText}
use Rattle.kp_service.proofs.Batching.{answer_alone, answer_refused, answer_together, looked_begun, weaker}
use Rattle.kp_service.proofs.service.ServiceAnswerer.answer.Goals as goal

pub returns-in_err-call-clause-begun : goal.returns-in_err-call-clause-begun
returns-in_err-call-clause-begun g c = at_err c.from_residual.result _ (looked_begun c.args.self.now.registry c.args.pass.now c.args.pass.now c.args.frame.now c.requires.pass.0 (looked_none c.args.pass.now))

pub returns-in_err-line-in-Refused-clause-begun : goal.returns-in_err-line-in-Refused-clause-begun
returns-in_err-line-in-Refused-clause-begun g c = at_err c.from_residual-in_err-line-in-Refused.result _ (looked_begun c.args.self.now.registry c.args.pass.now c.args.pass.now c.args.frame.now c.requires.pass.0 (looked_none c.args.pass.now))

pub returns-in-Single-clause-answered : goal.returns-in-Single-clause-answered
returns-in-Single-clause-answered g c =
    let call = call_view c.in-Single.call in
    let asked = subst (λ x. Asks c.args.frame.now (parsed_view x)) c.in-Single.is c.in_ok-call.ensures in
    IfOk-weaker c.answered.result _ _ (λ reply h. weaker c.args.self.now.registry c.args.pass.now c.answered.new.pass (λ o seen. IsMemberText o seen call (option_map (λ text. text.items) reply)) (λ o seen. IsAnswer o seen c.args.frame.now (option_map (λ text. text.items) reply))
    (λ o book after m. answer_alone o book after c.args.frame.now call (option_map (λ text. text.items) reply) asked m) h) c.answered.ensures.told

pub returns-in-Single-clause-begun : goal.returns-in-Single-clause-begun
returns-in-Single-clause-begun g c = when_err c.answered.result _ _ c.answered.ensures.left (λ looked. looked_begun c.args.self.now.registry c.args.pass.now c.answered.new.pass c.args.frame.now c.answered.ensures.pass looked)

pub returns-in-Batch-clause-answered : goal.returns-in-Batch-clause-answered
returns-in-Batch-clause-answered g c =
    let calls = calls_view c.in-Batch.calls.items in
    let asked = subst (λ x. Asks c.args.frame.now (parsed_view x)) c.in-Batch.is c.in_ok-call.ensures in
    IfOk-weaker c.answered_batch.result _ _ (λ reply h. weaker c.args.self.now.registry c.args.pass.now c.answered_batch.new.pass (λ o seen. AreMembersText o seen calls (option_map (λ text. text.items) reply)) (λ o seen. IsAnswer o seen c.args.frame.now (option_map (λ text. text.items) reply))
    (λ o book after m. answer_together o book after c.args.frame.now calls (option_map (λ text. text.items) reply) asked m) h) c.answered_batch.ensures.told

pub returns-in-Batch-clause-begun : goal.returns-in-Batch-clause-begun
returns-in-Batch-clause-begun g c =
    let calls = calls_view c.in-Batch.calls.items in
    let asked = subst (λ x. Asks c.args.frame.now (parsed_view x)) c.in-Batch.is c.in_ok-call.ensures in
    when_err c.answered_batch.result _ _ c.answered_batch.ensures.begun (λ h. weaker c.args.self.now.registry c.args.pass.now c.answered_batch.new.pass (λ o seen. IsFront o seen calls) (λ o seen. IsBegun o seen c.args.frame.now)
    (λ o book after f. begun_together calls after asked f) h)

pub returns-in_ok-line-in-Refused-clause-answered : goal.returns-in_ok-line-in-Refused-clause-answered
returns-in_ok-line-in-Refused-clause-answered g c =
    let asked = subst (λ x. Asks c.args.frame.now (parsed_view x)) c.in-Refused.is c.in_ok-call.ensures in
    λ o before seen. sees_same (HasSeenAt c.args.self.now.registry c.args.pass.now o) (IsAnswer o before c.args.frame.now (Some c.text_of.result.items)) before seen
    (answer_refused o before c.args.frame.now (refusal_view c.in-Refused.refusal) c.text_of.result.items asked (c.text_of.ensures _ c.in_ok-line-in-Refused.ensures))
