use Rattle.std.proofs.Common.{ℕ, ◌↔◌, ◌⊎◌, take, drop}
use Rattle.kp_signature.specs.Spans.{IsWithin}
use Rattle.kp_signature.proofs.spans.merged.Given as goal

abbrev pub invariant-loop-span : goal.invariant-loop-span
invariant-loop-span l = (j : ℕ) → (IsWithin l.all.items j ⊎ IsWithin (drop l.next l.left) j) ↔ (IsWithin l.left j ⊎ IsWithin (take l.span-index l.right) j)
