use Rattle.std.proofs.Common.{◌≤◌, drop, length}
use Rattle.kp_outward.specs.View.{spelled_view, patterns_in}
use Rattle.kp_outward.proofs.OrderLemmas.{AreOther}
use Rattle.kp_outward.proofs.order.is_kept.Given as goal

abbrev pub invariant-loop-left : goal.invariant-loop-left
invariant-loop-left l = (l.left ≤ length l.kept) × AreOther (spelled_view l.one) (patterns_in (drop l.left l.kept))

abbrev pub decreases-loop-left : goal.decreases-loop-left
decreases-loop-left l = l.left
