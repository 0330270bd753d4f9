use Rattle.std.proofs.Common.{ℕ, ◌↔◌, ◌⊎◌, take}
use Rattle.kp_signature.specs.Spans.{IsWithin}
use Rattle.kp_signature.proofs.spans.add_spans.Given as goal

abbrev pub invariant-loop-span : goal.invariant-loop-span
invariant-loop-span l = (j : ℕ) → IsWithin l.spans.items j ↔ (IsWithin l.fn.spans.items j ⊎ IsWithin (take l.span-index l.more) j)
