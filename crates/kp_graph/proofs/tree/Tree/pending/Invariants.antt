use Rattle.std.proofs.Common.{◌≡◌, ◌++◌, ◌+◌, ◌-◌, map, drop, length}
use Rattle.kp_graph.specs.Tree.{open_from, open_nodes}
use Rattle.kp_graph.specs.View.{nodes_view}
use Rattle.kp_graph.proofs.tree.Tree.pending.Given as goal

abbrev pub invariant-loop-place : goal.invariant-loop-place
invariant-loop-place l = map (λ n. n.number) l.pending.items ++ open_from (l.place + 1) (drop l.place (nodes_view l.self.nodes.items)) ≡ open_nodes (nodes_view l.self.nodes.items)

abbrev pub decreases-loop-place : goal.decreases-loop-place
decreases-loop-place l = length l.self.nodes.items - l.place
