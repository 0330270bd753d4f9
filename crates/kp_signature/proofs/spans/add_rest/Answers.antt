use Rattle.kp_signature.specs.Spans.{IsWithin}
use Rattle.kp_signature.proofs.SpanLemmas.{both_ways, moved, within_drop, none_dropped}
use Rattle.kp_signature.proofs.spans.add_rest.Goals as goal

pub loop-i-init : goal.loop-i-init
loop-i-init c j = (λ h. h, λ h. h)

pub loop-i-preserved : goal.loop-i-preserved
loop-i-preserved c j =
    both_ways (moved (c.in_ok-add_span.ensures j) (within_drop c.args.more.now c.loop-i.i _ j c.loop-i-test.true)) (c.loop-i.invariant j)

pub returns : goal.returns
returns c j =
    both_ways (none_dropped (IsWithin c.loop-i.spans.items j) c.args.more.now c.loop-i.i j c.loop-i-test.false) (c.loop-i.invariant j)
