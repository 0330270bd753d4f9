use Rattle.std.proofs.Common.{◌≡◌, ◌++◌, map, false}
use Rattle.kp_kore.specs.View.{view}
use Rattle.kp_graph.specs.Tree.{open_node}
use Rattle.kp_graph.specs.View.{nodes_view}
use Rattle.kp_graph.proofs.nodes.part_nodes.Given as goal

abbrev pub invariant-loop-state : goal.invariant-loop-state
invariant-loop-state l =
    (map (λ z. z.closed_behind) l.nodes.items ++ map (λ s. 0) l.state-iterator.rest.items ≡ map (λ s. 0) l.fn.states.items)
    × (nodes_view l.nodes.items ++ map (λ s. open_node l.parent.number s false l.progress) (map view l.state-iterator.rest.items) ≡ map (λ s. open_node l.fn.parent.number s false l.fn.progress) (map view l.fn.states.items))
