use Rattle.std.proofs.Common.{rules, ℕ, ◌≤◌, ◌↔◌, [], subst, take, get_or, length, Contains}
use Rattle.std.proofs.lemmas.List.{take_all}
use Rattle.kp_signature.specs.Spans.{IsWithin, spans_of}
use Rattle.kp_signature.proofs.EdgeLemmas.{nothing_there}
use Rattle.kp_signature.proofs.SpanLemmas.{none_in, those_more}
use Rattle.kp_signature.proofs.closures.spans_of_all.Goals as goal

pub loop-number-init : goal.loop-number-init
loop-number-init c j = (λ w. absurd (none_in c.new-all.result.items j c.new-all.ensures.items w), λ h. absurd (nothing_there h.0 h.1))

pub loop-number-preserved : goal.loop-number-preserved
loop-number-preserved c j =
    those_more c.args.spans.now c.args.numbers.now c.loop-number.number-index j _ _ c.loop-number-test.true (c.loop-number.invariant j) (c.in_ok-all.ensures j)

pub returns : goal.returns
returns c j =
    let past : length c.args.numbers.now ≤ c.loop-number.number-index = search rules in
    subst (λ l. IsWithin c.loop-number.all.items j ↔ ((i : ℕ) × Contains l i × IsWithin (get_or (spans_of c.args.spans.now) i []) j)) (take_all c.loop-number.number-index c.args.numbers.now past) (c.loop-number.invariant j)
