use Rattle.std.proofs.Common.{ℕ, ◌↔◌, [], take, get_or, Contains}
use Rattle.kp_signature.specs.Spans.{IsWithin, spans_of}
use Rattle.kp_signature.proofs.closures.spans_of_all.Given as goal

abbrev pub invariant-loop-number : goal.invariant-loop-number
invariant-loop-number l = (j : ℕ) → IsWithin l.all.items j ↔ ((i : ℕ) × Contains (take l.number-index l.numbers) i × IsWithin (get_or (spans_of l.spans) i []) j)
