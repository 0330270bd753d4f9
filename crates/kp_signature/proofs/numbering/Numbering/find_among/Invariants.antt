use Rattle.std.proofs.Common.{ℕ, take, Contains}
use Rattle.kp_kore.specs.View.{sort_view}
use Rattle.kp_signature.specs.Edges.{IsNumber}
use Rattle.kp_signature.specs.Numbering.{sorts_in}
use Rattle.kp_signature.proofs.numbering.Numbering.find_among.Given as goal

abbrev pub invariant-loop-number : goal.invariant-loop-number
invariant-loop-number l = (j : ℕ) → Contains (take l.number-index l.numbers) j → ¬ IsNumber (sorts_in l.self) j (sort_view l.sort)
