use Rattle.std.proofs.Common.{◌≡◌, ◌≤◌, map, drop, length}
use Rattle.kp_formulas.specs.Distribution.{one_distributed}
use Rattle.kp_formulas.specs.DistributionView.{distributed_view}
use Rattle.kp_formulas.proofs.distributed.one_of.Given as goal

abbrev pub invariant-loop-left : goal.invariant-loop-left
invariant-loop-left l = (l.left ≤ length l.parts) × (distributed_view l.found ≡ one_distributed (map distributed_view (drop l.left l.parts)))

abbrev pub decreases-loop-left : goal.decreases-loop-left
decreases-loop-left l = l.left
