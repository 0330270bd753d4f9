use Rattle.std.proofs.Common.{◌≡◌, ◌++◌, map, drop}
use Rattle.kp_kore.specs.View.{sorted_variable_view}
use Rattle.kp_rules.specs.Shapes.{variables_seen}
use Rattle.kp_rule_reading.proofs.choice.bound_variables.Given as goal

abbrev pub invariant-loop-binder : goal.invariant-loop-binder
invariant-loop-binder l = map sorted_variable_view l.variables.items ++ variables_seen (drop l.binder-index l.binders) ≡ variables_seen l.binders
