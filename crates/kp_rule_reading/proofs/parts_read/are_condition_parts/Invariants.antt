use Rattle.std.proofs.Common.{◌≡◌, drop}
use Rattle.std.specs.List.{list_all}
use Rattle.kp_rule_reading.specs.ReadRules.{is_condition_part}
use Rattle.kp_rules.specs.Shapes.{seen}
use Rattle.kp_rule_reading.proofs.parts_read.are_condition_parts.Given as goal

abbrev pub invariant-loop-part : goal.invariant-loop-part
invariant-loop-part l = list_all is_condition_part (seen l.parts) ≡ list_all is_condition_part (seen (drop l.part-index l.parts))
