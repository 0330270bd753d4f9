use Rattle.std.proofs.Common.{◌≡◌, length}
use Rattle.kp_rules.specs.Index.{AreStraightBy}
use Rattle.kp_rules.proofs.alone.straight_marks.Given as goal

abbrev pub invariant-loop-number : goal.invariant-loop-number
invariant-loop-number l = (length l.marks.items ≡ l.number) × AreStraightBy l.below l.narrow l.marks.items
