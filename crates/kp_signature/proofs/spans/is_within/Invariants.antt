use Rattle.std.proofs.Common.{take}
use Rattle.kp_signature.specs.Spans.{IsWithin}
use Rattle.kp_signature.proofs.spans.is_within.Given as goal

abbrev pub invariant-loop-span : goal.invariant-loop-span
invariant-loop-span l = ¬ IsWithin (take l.span-index l.spans) l.number
