use Rattle.std.proofs.Common.{rules, ◌≤◌, refl, sym, subst, inl, inr, take, length}
use Rattle.std.proofs.lemmas.List.{take_all}
use Rattle.kp_signature.specs.Spans.{IsWithin}
use Rattle.kp_signature.proofs.SpanLemmas.{none_within, within_more, within_here}
use Rattle.kp_signature.proofs.spans.is_within.Goals as goal

pub loop-span-init : goal.loop-span-init
loop-span-init c = none_within c.args.number

pub returns-then-holds : goal.returns-then-holds
returns-then-holds c = (
  λ _. within_here c.args.spans.now c.loop-span.span-index _ c.args.number c.loop-span-test.true (c.holds.ensures.0 (search rules)),
  λ _. refl,
)

pub loop-span-preserved : goal.loop-span-preserved
loop-span-preserved c w = elim ((within_more c.args.spans.now c.loop-span.span-index (record { first = 0; last = 0 }) c.args.number c.loop-span-test.true).0 w) [
  | inl old ↦ c.loop-span.invariant old
  | inr here ↦ absurd (cc (c.holds.ensures.1 here, c.if-holds.false))
]

pub returns : goal.returns
returns c =
    let past : length c.args.spans.now ≤ c.loop-span.span-index = search rules in
    (λ h. absurd (cc), λ w. absurd (c.loop-span.invariant (subst (λ l. IsWithin l c.args.number) (sym (take_all c.loop-span.span-index c.args.spans.now past)) w)))
