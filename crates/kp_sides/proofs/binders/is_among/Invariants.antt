use Rattle.std.proofs.Common.{◌≡◌, map, drop}
use Rattle.kp_kore.specs.Instance.{is_named}
use Rattle.kp_kore.specs.View.{sorted_variable_view}
use Rattle.kp_sides.proofs.binders.is_among.Given as goal

abbrev pub invariant-loop-variable : goal.invariant-loop-variable
invariant-loop-variable l = is_named l.name (map sorted_variable_view l.variables) ≡ is_named l.name (map sorted_variable_view (drop l.variable-index l.variables))
