use Rattle.std.proofs.Common.{◌≡◌, ◌++◌, map, drop}
use Rattle.kp_symbolic.specs.View.{variables_view}
use Rattle.kp_implies.specs.Printed as model
use Rattle.kp_implies.specs.View.{telling_view}
use Rattle.kp_implies.proofs.tellings.told_variables.Given as goal

abbrev pub invariant-loop-telling : goal.invariant-loop-telling
invariant-loop-telling l =
    variables_view l.found.items ++ model.told_variables (map telling_view (drop l.telling-index l.tellings)) ≡ model.told_variables (map telling_view l.tellings)
