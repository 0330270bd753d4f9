use Rattle.std.proofs.Common.{◌≡◌, drop}
use Rattle.kp_kore.specs.Instance.{is_named}
use Rattle.kp_symbolic.specs.View.{variables_view}
use Rattle.kp_execute.proofs.lost_variables.is_at_hand.Given as goal

abbrev pub invariant-loop-variable : goal.invariant-loop-variable
invariant-loop-variable l = is_named l.name (variables_view l.hand) ≡ is_named l.name (variables_view (drop l.variable-index l.hand))
