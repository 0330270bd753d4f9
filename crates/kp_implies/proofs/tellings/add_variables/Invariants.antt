use Rattle.std.proofs.Common.{◌≡◌, ◌++◌, drop}
use Rattle.kp_symbolic.specs.View.{variables_view}
use Rattle.kp_implies.proofs.tellings.add_variables.Given as goal

abbrev pub invariant-loop-variable : goal.invariant-loop-variable
invariant-loop-variable l =
    variables_view l.found.items ++ variables_view (drop l.variable-index l.told) ≡ variables_view l.fn.found.items ++ variables_view l.told
