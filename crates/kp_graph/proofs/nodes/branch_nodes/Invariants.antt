use Rattle.std.proofs.Common.{◌≡◌, ◌++◌, ◌||◌, map, false}
use Rattle.kp_kore.specs.ClaimRules.{is_progress}
use Rattle.kp_graph.specs.Tree.{open_node}
use Rattle.kp_graph.specs.View.{nodes_view, child_view, rule_view}
use Rattle.kp_graph.proofs.nodes.branch_nodes.Given as goal

abbrev pub invariant-loop-child : goal.invariant-loop-child
invariant-loop-child l =
    (map (λ z. z.closed_behind) l.nodes.items ++ map (λ k. 0) l.child-iterator.rest.items ≡ map (λ k. 0) l.fn.children.items)
    × (nodes_view l.nodes.items ++ map (λ k. open_node l.parent.number k.state false (l.progress || is_progress k.rule)) (map child_view l.child-iterator.rest.items) ≡ map (λ k. open_node l.fn.parent.number k.state false (l.fn.progress || is_progress k.rule)) (map child_view l.fn.children.items))
    × (map rule_view l.rules.items ++ map (λ k. k.rule) (map child_view l.child-iterator.rest.items) ≡ map (λ k. k.rule) (map child_view l.fn.children.items))
