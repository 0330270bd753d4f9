use Rattle.std.proofs.Common.{drop, None}
use Rattle.kp_kore.specs.Theory.{Theory}
use Rattle.kp_rule_sets.specs.RuleSets.{RunsAs}
use Rattle.kp_execute.specs.Order.{AreBehind}
use Rattle.kp_execute.proofs.next_order.are_in_turn.Given as goal

-- where those that are left stand behind the last one, all stand in their turns
abbrev pub invariant-loop-next : goal.invariant-loop-next
invariant-loop-next l = (t : Theory) → RunsAs t l.rules → AreBehind t l.last (drop l.next-index l.nexts) → AreBehind t None l.nexts
