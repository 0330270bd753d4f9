use Rattle.std.proofs.Common.{◌≡◌, ◌++◌, drop}
use Rattle.kp_symbolic.specs.View.{variables_view}
use Rattle.kp_rules.specs.Shapes.{variables_seen}
use Rattle.kp_goals.proofs.consequent.bound_variables.Given as goal

abbrev pub invariant-loop-binder : goal.invariant-loop-binder
invariant-loop-binder l = variables_view l.found.items ++ variables_seen (drop l.binder-index l.binders) ≡ variables_seen l.binders
