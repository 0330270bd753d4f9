use Rattle.std.proofs.Common.{rules, ap, ◌∙◌, length}
use Rattle.kp_signature.proofs.SpanLemmas.{edges_read, one_longer}
use Rattle.kp_rules.specs.Index.{IsNarrow}
use Rattle.kp_rules.proofs.AloneLemmas.{no_mark, marks_more}
use Rattle.kp_rules.proofs.alone.narrow_marks.Goals as goal

pub loop-number-init : goal.loop-number-init
loop-number-init c = (ap length c.new-marks.ensures.items, λ pairs order i m. absurd (no_mark c.new-marks.result.items i c.new-marks.ensures.items m))

pub loop-number-preserved : goal.loop-number-preserved
loop-number-preserved c =
    let n = c.loop-number.number in
    let above = c.args.order.now.graph.above.items in
    let marks = c.loop-number.marks.items in
    let long = c.loop-number.invariant.0 in
    let read = edges_read above n c.index.result.now (search rules) c.index.ensures in (
      one_longer marks c.push.new.self.items c.is_narrow.result n c.in_ok-push.ensures.items long,
      λ pairs order. marks_more (IsNarrow c.args.order.now.graph) marks c.push.new.self.items c.is_narrow.result n (c.loop-number.invariant.1 pairs order) long c.in_ok-push.ensures.items
          (λ passed. c.is_narrow.ensures pairs order (c.deref.ensures.value ∙ read) passed),
    )
