use Rattle.std.proofs.Common.{◌≡◌, drop}
use Rattle.std.specs.List.{list_all}
use Rattle.kp_rule_reading.specs.ReadRules.{is_top_pattern}
use Rattle.kp_rules.specs.Shapes.{seen}
use Rattle.kp_rule_reading.proofs.read.are_tops.Given as goal

abbrev pub invariant-loop-pattern : goal.invariant-loop-pattern
invariant-loop-pattern l = list_all is_top_pattern (seen l.patterns) ≡ list_all is_top_pattern (seen (drop l.pattern-index l.patterns))
