use Rattle.std.proofs.Common.{rules, ◌≡◌, map, true, false}
use Rattle.kp_signature.specs.View.{signature_view}
use Rattle.kp_sort_heads.specs.Views.{head_view}
use Rattle.kp_overlap.specs.Views.{placed_view}
use Rattle.kp_overlap.specs.Sorted.{HasHeadAt}
use Rattle.kp_overlap.proofs.SortLemmas.{all_more, all_read, is_false, false_true}
use Rattle.kp_overlap.proofs.sorts.all_have_head.Goals as goal

pub loop-number-preserved : goal.loop-number-preserved
loop-number-preserved c =
    let P = HasHeadAt (signature_view c.args.signature.now) (map placed_view c.args.sorts.now) (head_view c.args.head.now) in
    let met : c.has_head.result ≡ true = search rules in
    all_more P c.args.numbers.now c.loop-number.number-index 0 c.loop-number-test.true c.loop-number.invariant (c.has_head.ensures.0 met)

pub returns-then-not-has_head : goal.returns-then-not-has_head
returns-then-not-has_head c =
    let P = HasHeadAt (signature_view c.args.signature.now) (map placed_view c.args.sorts.now) (head_view c.args.head.now) in
    let no : c.has_head.result ≡ false = search rules in
    is_false (λ all. false_true no (c.has_head.ensures.1 (all_read P c.args.numbers.now c.loop-number.number-index 0 c.loop-number-test.true all)))
