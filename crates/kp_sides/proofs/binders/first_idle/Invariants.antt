use Rattle.std.proofs.Common.{◌≡◌, map, length}
use Rattle.kp_kore.specs.View.{sorted_variable_view}
use Rattle.kp_rules.specs.Shapes.{variables_seen}
use Rattle.kp_sides.specs.Sides.{first_idle}
use Rattle.kp_sides.proofs.binders.first_idle.Given as goal

abbrev pub invariant-loop-left : goal.invariant-loop-left
invariant-loop-left l = first_idle (map sorted_variable_view l.inside) (variables_seen l.left) ≡ first_idle (map sorted_variable_view l.inside) (variables_seen l.binders)

abbrev pub decreases-loop-left : goal.decreases-loop-left
decreases-loop-left l = length l.left
