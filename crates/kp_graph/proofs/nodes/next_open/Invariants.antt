use Rattle.std.proofs.Common.{◌≤◌, ◌-◌, length}
use Rattle.kp_graph.specs.Kept.{before_open}
use Rattle.kp_graph.specs.View.{nodes_view}
use Rattle.kp_graph.proofs.nodes.next_open.Given as goal

abbrev pub invariant-loop-place : goal.invariant-loop-place
invariant-loop-place l = l.place ≤ before_open (nodes_view l.nodes)

abbrev pub decreases-loop-place : goal.decreases-loop-place
decreases-loop-place l = length l.nodes - l.place
