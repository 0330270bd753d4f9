use Rattle.std.proofs.Common.{rules, ◌≤◌, ◌↔◌, ◌⊎◌, subst, inl, inr, drop, length}
use Rattle.std.proofs.lemmas.List.{take_all}
use Rattle.kp_signature.specs.Spans.{IsWithin}
use Rattle.kp_signature.proofs.SpanLemmas.{none_within, none_in, within_more, both_ways, merged_more}
use Rattle.kp_signature.proofs.spans.merged.Goals as goal

pub loop-span-init : goal.loop-span-init
loop-span-init c j = (
  λ h. elim h [ inl none ↦ absurd (none_in c.new-all.result.items j c.new-all.ensures.items none) | inr w ↦ inl w ],
  λ h. elim h [ inl w ↦ inr w | inr none ↦ absurd (none_within j none) ],
)

pub loop-span-preserved : goal.loop-span-preserved
loop-span-preserved c j =
    merged_more (c.loop-span.invariant j) (c.in_ok-next.ensures j) (c.in_ok-add_span.ensures j)
    (within_more c.args.right.now c.loop-span.span-index _ j c.loop-span-test.true)

pub returns : goal.returns
returns c j =
    let past : length c.args.right.now ≤ c.loop-span.span-index = search rules in
    both_ways (c.in_ok-add_rest.ensures j)
    (subst (λ l. (IsWithin c.loop-span.all.items j ⊎ IsWithin (drop c.loop-span.next c.args.left.now) j) ↔ (IsWithin c.args.left.now j ⊎ IsWithin l j)) (take_all c.loop-span.span-index c.args.right.now past) (c.loop-span.invariant j))
