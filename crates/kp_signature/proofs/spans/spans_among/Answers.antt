use Rattle.std.proofs.Common.{rules, ◌≤◌, ◌↔◌, subst, take, length, Contains}
use Rattle.std.proofs.lemmas.List.{take_all}
use Rattle.kp_signature.specs.Spans.{IsWithin}
use Rattle.kp_signature.proofs.EdgeLemmas.{nothing_there}
use Rattle.kp_signature.proofs.SpanLemmas.{none_in, number_more}
use Rattle.kp_signature.proofs.spans.spans_among.Goals as goal

pub loop-number-init : goal.loop-number-init
loop-number-init c j = (λ w. absurd (none_in c.new-spans.result.items j c.new-spans.ensures.items w), λ h. absurd (nothing_there j h))

pub loop-number-preserved : goal.loop-number-preserved
loop-number-preserved c j =
    number_more c.args.numbers.now c.loop-number.number-index j _ _ c.loop-number-test.true (c.loop-number.invariant j) (c.in_ok-add_number.ensures j)

pub returns : goal.returns
returns c j =
    let past : length c.args.numbers.now ≤ c.loop-number.number-index = search rules in
    subst (λ l. IsWithin c.loop-number.spans.items j ↔ Contains l j) (take_all c.loop-number.number-index c.args.numbers.now past) (c.loop-number.invariant j)
