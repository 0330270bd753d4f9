use Rattle.std.proofs.Common.{◌≡◌, ◌++◌, map, drop}
use Rattle.kp_kore.specs.View.{view}
use Rattle.kp_rules.specs.Shapes.{seen}
use Rattle.kp_rule_reading.proofs.choice.copies.Given as goal

abbrev pub invariant-loop-pattern : goal.invariant-loop-pattern
invariant-loop-pattern l = map view l.copies.items ++ seen (drop l.pattern-index l.patterns) ≡ seen l.patterns
