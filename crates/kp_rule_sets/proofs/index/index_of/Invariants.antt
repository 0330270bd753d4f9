use Rattle.std.proofs.Common.{take}
use Rattle.kp_rule_sets.specs.Rows.{FillsOf, numbered}
use Rattle.kp_rule_sets.proofs.index.index_of.Given as goal

abbrev pub invariant-loop-turn : goal.invariant-loop-turn
invariant-loop-turn l = FillsOf l.rules (numbered 0 (take l.turn l.order)) l.index
