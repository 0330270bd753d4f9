use Rattle.std.proofs.Common.{rules, ◌≡◌, ◌∙◌, ap, sym, subst, []}
use Rattle.std.proofs.lemmas.Result.{IfOk-weaker}
use Rattle.std.specs.Option.{option_map}
use Rattle.kp_conn.proofs.Conversing.{at_err, sees_same}
use Rattle.kp_requests.specs.View.{call_view, calls_view}
use Rattle.kp_additions.specs.Served.{HasSeenAt}
use Rattle.kp_service.specs.Batches.{AreFirstTold, FromEachBookSeen}
use Rattle.kp_service.proofs.Batching.{none_left, none_told, then_broken, then_next, told_whole, whole_broken}
use Rattle.kp_service.proofs.batch.answered_batch.Goals as goal

pub loop-call-init : goal.loop-call-init
loop-call-init g c =
    let registry = c.args.registry.now in
    let pass = c.args.pass.now in
    let calls = calls_view c.args.calls.items in
    let none : c.new-replies.result.items ≡ [] = search rules in
    let all : c.into_iter-call-iterator.result.rest.items ≡ c.args.calls.items = search rules in
    record {
      pass = c.requires.pass;
      told = subst (λ t. FromEachBookSeen registry pass pass (λ o seen. AreFirstTold o seen calls t (calls_view c.into_iter-call-iterator.result.rest.items))) (sym none)
          (subst (λ l. FromEachBookSeen registry pass pass (λ o seen. AreFirstTold o seen calls [] (calls_view l))) (sym all)
          (λ o s had. sees_same (HasSeenAt registry pass o) (AreFirstTold o s calls [] calls) s had (none_told o s calls)));
    }

pub loop-call-preserved : goal.loop-call-preserved
loop-call-preserved g c =
    let so_far = subst (λ l. FromEachBookSeen c.args.registry.now c.args.pass.now c.loop-call.pass (λ o seen. AreFirstTold o seen (calls_view c.args.calls.items) c.loop-call.replies.items l)) (ap calls_view c.in-Some.ensures.steps.0) c.loop-call.invariant.told in
    record {
      pass = c.answer_next.ensures.pass;
      told = then_next c.args.registry.now c.args.pass.now c.loop-call.pass c.answer_next.new.pass (calls_view c.args.calls.items) (calls_view c.next.new.self.rest.items) (call_view c.in-Some.call) c.loop-call.replies.items c.answer_next.new.replies.items so_far c.in_ok-answer_next.ensures.told;
    }

pub returns-in_err-answer_next-clause-begun : goal.returns-in_err-answer_next-clause-begun
returns-in_err-answer_next-clause-begun g c =
    let so_far = subst (λ l. FromEachBookSeen c.args.registry.now c.args.pass.now c.loop-call.pass (λ o seen. AreFirstTold o seen (calls_view c.args.calls.items) c.loop-call.replies.items l)) (ap calls_view c.in-Some.ensures.steps.0) c.loop-call.invariant.told in
    at_err c.from_residual.result _ (then_broken c.args.registry.now c.args.pass.now c.loop-call.pass c.answer_next.new.pass (calls_view c.args.calls.items) (calls_view c.next.new.self.rest.items) (call_view c.in-Some.call) c.loop-call.replies.items so_far c.in_err-answer_next.ensures.begun)

pub returns-clause-told : goal.returns-clause-told
returns-clause-told g c =
    let calls = calls_view c.args.calls.items in
    let over : c.loop-call.call-iterator.rest.items ≡ [] = none_left _ (sym c.loop-call.call-iterator.rest.ok.0 ∙ c.in-None.ensures.steps.0) in
    let so_far = subst (λ l. FromEachBookSeen c.args.registry.now c.args.pass.now c.loop-call.pass (λ o seen. AreFirstTold o seen calls c.loop-call.replies.items (calls_view l))) over c.loop-call.invariant.told in
    IfOk-weaker c.closed.result _ _ (λ array is. told_whole c.args.registry.now c.args.pass.now c.loop-call.pass calls c.loop-call.replies.items (option_map (λ text. text.items) array) is so_far) c.closed.ensures

pub returns-clause-begun : goal.returns-clause-begun
returns-clause-begun g c =
    let calls = calls_view c.args.calls.items in
    let over : c.loop-call.call-iterator.rest.items ≡ [] = none_left _ (sym c.loop-call.call-iterator.rest.ok.0 ∙ c.in-None.ensures.steps.0) in
    let so_far = subst (λ l. FromEachBookSeen c.args.registry.now c.args.pass.now c.loop-call.pass (λ o seen. AreFirstTold o seen calls c.loop-call.replies.items (calls_view l))) over c.loop-call.invariant.told in
    at_err c.closed.result _ (whole_broken c.args.registry.now c.args.pass.now c.loop-call.pass calls c.loop-call.replies.items so_far)
