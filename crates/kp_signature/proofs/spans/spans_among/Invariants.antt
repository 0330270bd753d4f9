use Rattle.std.proofs.Common.{ℕ, ◌↔◌, take, Contains}
use Rattle.kp_signature.specs.Spans.{IsWithin}
use Rattle.kp_signature.proofs.spans.spans_among.Given as goal

abbrev pub invariant-loop-number : goal.invariant-loop-number
invariant-loop-number l = (j : ℕ) → IsWithin l.spans.items j ↔ Contains (take l.number-index l.numbers) j
