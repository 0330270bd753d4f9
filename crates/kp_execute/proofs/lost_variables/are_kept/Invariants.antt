use Rattle.std.proofs.Common.{◌≡◌, map, drop}
use Rattle.std.specs.List.{list_all}
use Rattle.kp_kore.specs.View.{sorted_variable_view}
use Rattle.kp_symbolic.specs.View.{variables_view}
use Rattle.kp_execute.specs.Lost.{is_kept}
use Rattle.kp_execute.proofs.lost_variables.are_kept.Given as goal

abbrev pub invariant-loop-variable : goal.invariant-loop-variable
invariant-loop-variable l = let kept = is_kept (variables_view l.hand) (map sorted_variable_view l.shown) in list_all kept (map sorted_variable_view l.variables) ≡ list_all kept (map sorted_variable_view (drop l.variable-index l.variables))
