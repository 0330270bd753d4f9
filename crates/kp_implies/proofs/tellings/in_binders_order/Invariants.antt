use Rattle.std.proofs.Common.{◌≡◌, ◌++◌, map, drop}
use Rattle.kp_symbolic.specs.View.{atom_view, variables_view}
use Rattle.kp_implies.specs.Printed as model
use Rattle.kp_implies.specs.View.{telling_view}
use Rattle.kp_implies.proofs.tellings.in_binders_order.Given as goal

abbrev pub invariant-loop-variable : goal.invariant-loop-variable
invariant-loop-variable l =
    map atom_view l.found.items ++ model.in_binders_order (map telling_view l.tellings) (variables_view (drop l.variable-index l.bound)) ≡ model.in_binders_order (map telling_view l.tellings) (variables_view l.bound)
