use Rattle.std.proofs.Common.{◌≡◌, ◌≤◌, map, drop, length}
use Rattle.kp_kore.specs.View.{view, sort_view}
use Rattle.kp_symbolic.specs.Writing.{under_exists}
use Rattle.kp_symbolic.specs.View.{variable_view}
use Rattle.kp_outward.proofs.test.bind_all.Given as goal

abbrev pub invariant-loop-left : goal.invariant-loop-left
invariant-loop-left l =
    (l.left ≤ length l.variables)
    × (view l.found.value ≡ under_exists (sort_view l.sort) (map variable_view (drop l.left l.variables)) (view l.fn.pattern.value))

abbrev pub decreases-loop-left : goal.decreases-loop-left
decreases-loop-left l = l.left
