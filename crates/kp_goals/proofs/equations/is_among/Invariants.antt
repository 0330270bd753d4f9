use Rattle.std.proofs.Common.{◌≡◌, drop}
use Rattle.kp_kore.specs.Instance.{is_named}
use Rattle.kp_symbolic.specs.View.{variables_view}
use Rattle.kp_goals.proofs.equations.is_among.Given as goal

abbrev pub invariant-loop-variable : goal.invariant-loop-variable
invariant-loop-variable l = is_named l.name (variables_view l.variables) ≡ is_named l.name (variables_view (drop l.variable-index l.variables))
