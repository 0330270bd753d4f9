use Rattle.std.proofs.Common.{◌≡◌, drop}
use Rattle.std.specs.List.{list_all}
use Rattle.indexmap.specs.IndexSet.{contains_text}
use Rattle.kp_rule_reading.specs.ReadRules.{is_predicate_read}
use Rattle.kp_rules.specs.Shapes.{seen}
use Rattle.kp_rule_reading.proofs.read.is_read_condition.Given as goal

abbrev pub invariant-loop-predicate : goal.invariant-loop-predicate
invariant-loop-predicate l = list_all (is_predicate_read (contains_text l.names)) (seen l.condition) ≡ list_all (is_predicate_read (contains_text l.names)) (seen (drop l.predicate-index l.condition))
