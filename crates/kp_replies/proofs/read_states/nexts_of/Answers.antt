use Rattle.std.proofs.Common.{◌+◌, drop, option_map, sym, ap, ◌∙◌, subst}
use Rattle.serde_json.specs.View.{items_view}
use Rattle.kp_results.specs.View.{next_view, nexts_view}
use Rattle.kp_replies.specs.Read.{read_nexts}
use Rattle.kp_replies.proofs.NextsRead.{ReadsOn, reads_next}
use Rattle.kp_replies.proofs.read_states.nexts_of.Goals as goal

pub loop-value-preserved : goal.loop-value-preserved
loop-value-preserved c =
    let whole = read_nexts (items_view c.args.values.now) in
    let more = reads_next whole c.loop-value.nexts.items c.args.values.now c.loop-value.value-index c.value-item.result c.in-Some.next c.loop-value-test.true c.value-item.is
    (ap (option_map next_view) (sym c.in-Some.is) ∙ c.in_ok-next.ensures) c.loop-value.invariant in
    subst (λ l. ReadsOn whole (nexts_view l) (items_view (drop (c.loop-value.value-index + 1) c.args.values.now))) (sym c.in-Ok.ensures.items) more
