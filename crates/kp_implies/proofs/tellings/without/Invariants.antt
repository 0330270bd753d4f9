use Rattle.std.proofs.Common.{◌≡◌, ◌++◌, drop}
use Rattle.kp_symbolic.specs.View.{variables_view}
use Rattle.kp_implies.specs.Printed as model
use Rattle.kp_implies.proofs.tellings.without.Given as goal

abbrev pub invariant-loop-variable : goal.invariant-loop-variable
invariant-loop-variable l =
    variables_view l.found.items ++ model.without (variables_view l.told) (variables_view (drop l.variable-index l.left)) ≡ model.without (variables_view l.told) (variables_view l.left)
