use Rattle.std.proofs.Common.{take}
use Rattle.kp_signature.specs.View.{signature_view}
use Rattle.kp_rule_reading.specs.LeftForms.{AreLeftForms}
use Rattle.kp_rule_reading.proofs.left_side.+left_side.Given as goal

abbrev pub invariant-left_sides_of-loop-pattern : goal.invariant-left_sides_of-loop-pattern
invariant-left_sides_of-loop-pattern l = AreLeftForms (signature_view l.signature) (take l.pattern-index l.patterns) l.found.items
