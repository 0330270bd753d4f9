use Rattle.std.proofs.Common.{ℕ, ◌<◌, take, Contains}
use Rattle.kp_signature.proofs.closures.are_below.Given as goal

abbrev pub invariant-loop-number : goal.invariant-loop-number
invariant-loop-number l = (i : ℕ) → Contains (take l.number-index l.numbers) i → i < l.limit
