use Rattle.std.proofs.Common.{◌≡◌, drop}
use Rattle.kp_kore.specs.Rules.{have_distinct_names}
use Rattle.kp_rules.specs.Shapes.{variables_seen}
use Rattle.kp_rules.proofs.shape.are_distinct.Given as goal

abbrev pub invariant-loop-i : goal.invariant-loop-i
invariant-loop-i l = have_distinct_names (variables_seen l.variables) ≡ have_distinct_names (variables_seen (drop l.i l.variables))
