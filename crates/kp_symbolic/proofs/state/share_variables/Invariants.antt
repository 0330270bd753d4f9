use Rattle.std.proofs.Common.{◌≡◌, take}
use Rattle.kp_symbolic.specs.View.{variables_view}
use Rattle.kp_symbolic.proofs.state.share_variables.Given as goal

abbrev pub invariant-loop-variable : goal.invariant-loop-variable
invariant-loop-variable l = variables_view l.shared.items ≡ variables_view (take l.variable-index l.variables)
