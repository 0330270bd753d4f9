use Rattle.std.proofs.Common.{rules, ◌∙◌, sym, ◌≤◌, length}
use Rattle.kp_signature.specs.View.{signature_view}
use Rattle.kp_limits.proofs.SumLemmas.{places_in, sum_more, sum_end, places_sum}
use Rattle.kp_limits.proofs.places.+places.Goals as goal

pub places_of_all-loop-left-preserved : goal.places_of_all-loop-left-preserved
places_of_all-loop-left-preserved t c =
    sum_more (places_in (signature_view c.args.signature.now)) c.args.lefts.now c.loop-left.left-index c.loop-left.count c.in_ok-places_of.field-0 c.in_ok-count.count c.left-item.result
    c.loop-left-test.true c.left-item.is c.in_ok-places_of.ensures c.in_ok-count.ensures c.loop-left.invariant

pub places_of_all-returns : goal.places_of_all-returns
places_of_all-returns t c =
    let g = signature_view c.args.signature.now in
    let past : length c.args.lefts.now ≤ c.loop-left.left-index = search rules in
    sum_end (places_in g) c.args.lefts.now c.loop-left.left-index c.loop-left.count past c.loop-left.invariant ∙ sym (places_sum g c.args.lefts.now)
