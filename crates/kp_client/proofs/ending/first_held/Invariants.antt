use Rattle.kp_graph.specs.TreeView.{tree_view}
use Rattle.kp_client.proofs.Nodes.{IsNoneHeldBefore}
use Rattle.kp_client.proofs.ending.first_held.Given as goal

abbrev pub invariant-loop-number : goal.invariant-loop-number
invariant-loop-number l = IsNoneHeldBefore (tree_view l.tree) l.number
