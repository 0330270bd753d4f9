use Rattle.std.proofs.Common.{rules, ◌≤◌, ◌↔◌, ◌⊎◌, subst, inl, inr, take, length}
use Rattle.std.proofs.lemmas.List.{take_all}
use Rattle.kp_signature.specs.Spans.{IsWithin}
use Rattle.kp_signature.proofs.SpanLemmas.{none_within, within_more, added_on}
use Rattle.kp_signature.proofs.spans.add_spans.Goals as goal

pub loop-span-init : goal.loop-span-init
loop-span-init c j = (λ w. inl w, λ h. elim h [ inl w ↦ w | inr none ↦ absurd (none_within j none) ])

pub loop-span-preserved : goal.loop-span-preserved
loop-span-preserved c j =
    added_on (c.loop-span.invariant j) (c.in_ok-add_span.ensures j)
    (within_more c.args.more.now c.loop-span.span-index _ j c.loop-span-test.true)

pub returns : goal.returns
returns c j =
    let past : length c.args.more.now ≤ c.loop-span.span-index = search rules in
    subst (λ l. IsWithin c.loop-span.spans.items j ↔ (IsWithin c.args.spans.now.items j ⊎ IsWithin l j)) (take_all c.loop-span.span-index c.args.more.now past) (c.loop-span.invariant j)
