use Rattle.std.proofs.Common.{rules, ℕ, List, Bool, false, ◌<◌, ap, subst, ◌∙◌, length, get_or, Contains}
use Rattle.std.specs.Prelude.{IsTrue}
use Rattle.kp_signature.proofs.SpanLemmas.{edges_read, one_longer}
use Rattle.kp_rules.proofs.AloneLemmas.{no_straight, straight_more}
use Rattle.kp_rules.proofs.alone.straight_marks.Goals as goal

pub loop-number-init : goal.loop-number-init
loop-number-init c = (ap length c.new-marks.ensures.items, no_straight c.args.below.now c.args.narrow.now c.new-marks.result.items c.new-marks.ensures.items)

pub loop-number-preserved : goal.loop-number-preserved
loop-number-preserved c =
    let n = c.loop-number.number in
    let below = c.args.below.now in
    let narrow = c.args.narrow.now in
    let marks = c.loop-number.marks.items in
    let long = c.loop-number.invariant.0 in
    let read = edges_read below n c.index-below-number.result (search rules) c.index-below-number.is in (
      one_longer marks c.push.new.self.items c.are_straight-passes.result n c.in_ok-push.ensures.items long,
      straight_more below narrow marks c.push.new.self.items c.are_straight-passes.result c.deref.result.now n c.loop-number.invariant.1 long c.in_ok-push.ensures.items (c.deref.ensures.value ∙ read)
          (λ passed. subst (λ (l : List Bool). (i : ℕ) → Contains c.deref.result.now i → (i < length l) × IsTrue (get_or l i false) × IsTrue (get_or narrow i false)) c.deref-in-loop-number.ensures.value (c.are_straight-passes.ensures passed)),
    )
