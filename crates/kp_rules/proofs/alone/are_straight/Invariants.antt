use Rattle.std.proofs.Common.{ℕ, ◌<◌, false, take, length, get_or, Contains}
use Rattle.std.specs.Prelude.{IsTrue}
use Rattle.kp_rules.proofs.alone.are_straight.Given as goal

abbrev pub invariant-loop-number : goal.invariant-loop-number
invariant-loop-number l = (i : ℕ) → Contains (take l.number-index l.numbers) i → (i < length l.marks) × IsTrue (get_or l.marks i false) × IsTrue (get_or l.narrow i false)
