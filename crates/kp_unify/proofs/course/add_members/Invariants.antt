use Rattle.std.proofs.Common.{◌≡◌, ◌++◌, ◌≤◌, length, map, drop}
use Rattle.kp_symbolic.specs.View.{term_view}
use Rattle.kp_unify.specs.Forms.{members_view}
use Rattle.kp_unify.specs.Replaced.{pairs_of}
use Rattle.kp_unify.specs.Views.{pair_view}
use Rattle.kp_unify.proofs.course.add_members.Given as goal

abbrev pub invariant-loop-left : goal.invariant-loop-left
invariant-loop-left l =
    (l.left ≤ length l.terms) × (map pair_view l.pairs.items ≡ map pair_view l.fn.pairs.items ++ pairs_of (drop l.left (members_view l.members)) (drop l.left (map term_view l.terms)))

abbrev pub decreases-loop-left : goal.decreases-loop-left
decreases-loop-left l = l.left
