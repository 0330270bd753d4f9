use Rattle.std.proofs.Common.{◌≡◌, drop}
use Rattle.std.specs.List.{list_all}
use Rattle.kp_signature.specs.View.{signature_view}
use Rattle.kp_rule_reading.specs.ReadRules.{is_part_read}
use Rattle.kp_rules.specs.Shapes.{seen}
use Rattle.kp_rule_reading.proofs.parts_read.are_read_parts.Given as goal

abbrev pub invariant-loop-part : goal.invariant-loop-part
invariant-loop-part l = list_all (is_part_read (signature_view l.signature)) (seen l.parts) ≡ list_all (is_part_read (signature_view l.signature)) (seen (drop l.part-index l.parts))
