use Rattle.std.proofs.Common.{◌+◌, drop, option_map, sym, ap, ◌∙◌, subst, arith}
use Rattle.serde_json.specs.View.{view}
use Rattle.kp_results.specs.View.{nexts_view}
use Rattle.kp_replies.specs.Written.{next_trees}
use Rattle.kp_replies.proofs.NextsWritten.{WritesOn, writes_next, writes_done}
use Rattle.kp_replies.proofs.states.nexts_value.Goals as goal

pub loop-next-preserved : goal.loop-next-preserved
loop-next-preserved c =
    let whole = next_trees (nexts_view c.args.nexts.now) in
    let more = writes_next whole c.loop-next.values.items c.args.nexts.now c.loop-next.next-index c.next-item.result c.in-Some.value c.loop-next-test.true c.next-item.is
    (ap (option_map view) (sym c.in-Some.is) ∙ c.in_ok-value.ensures) c.loop-next.invariant in
    subst (λ l. WritesOn whole l (nexts_view (drop (c.loop-next.next-index + 1) c.args.nexts.now))) (sym c.in_ok-push-in-Some.ensures.items) more

pub returns : goal.returns
returns c = writes_done (next_trees (nexts_view c.args.nexts.now)) c.loop-next.values.items c.args.nexts.now c.loop-next.next-index (omega (arith, c.loop-next-test.false)) c.loop-next.invariant
