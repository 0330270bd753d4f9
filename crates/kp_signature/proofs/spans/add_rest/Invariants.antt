use Rattle.std.proofs.Common.{ℕ, ◌↔◌, ◌⊎◌, drop}
use Rattle.kp_signature.specs.Spans.{IsWithin}
use Rattle.kp_signature.proofs.spans.add_rest.Given as goal

abbrev pub invariant-loop-i : goal.invariant-loop-i
invariant-loop-i l = (j : ℕ) → (IsWithin l.spans.items j ⊎ IsWithin (drop l.i l.more) j) ↔ (IsWithin l.fn.spans.items j ⊎ IsWithin (drop l.from l.more) j)
