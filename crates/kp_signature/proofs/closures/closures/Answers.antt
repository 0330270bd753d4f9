use Rattle.std.proofs.Common.{rules, ◌≡◌, ◌<◌, [], ap, sym, subst, ◌∙◌, get_or, length}
use Rattle.kp_signature.specs.Edges.{edges_of}
use Rattle.kp_signature.specs.Spans.{IsSpread}
use Rattle.kp_signature.proofs.SpanLemmas.{edges_read, nothing_spread, one_longer, spread_more}
use Rattle.kp_signature.proofs.closures.closures.Goals as goal

pub loop-number-init : goal.loop-number-init
loop-number-init c = (ap length c.new-spans.ensures.items, nothing_spread (edges_of c.args.edges.now) c.new-spans.result.items (ap length c.new-spans.ensures.items))

pub loop-number-preserved : goal.loop-number-preserved
loop-number-preserved c =
    let edges = c.args.edges.now in
    let n = c.loop-number.number in
    let spans = c.loop-number.spans.items in
    let next = edges_read edges n c.index-edges-number.result (search rules) c.index-edges-number.is in
    let before = subst (IsSpread (edges_of edges)) (sym c.deref-in-loop-number.ensures.value) c.loop-number.invariant.1 in
    let own = c.in_ok-own.ensures before (c.deref.ensures.value ∙ next) in (
      one_longer spans c.push.new.self.items c.in_ok-own.own n c.in_ok-push.ensures.items c.loop-number.invariant.0,
      spread_more (edges_of edges) spans c.push.new.self.items c.in_ok-own.own n c.loop-number.invariant.1 c.loop-number.invariant.0 c.in_ok-push.ensures.items own,
    )
