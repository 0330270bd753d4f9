-- The tree that the Rust type stands for: the list of its nodes.
use Rattle.std.specs.Prelude.{List}
use Rattle.kp_graph.specs.Tree.{ProofNode}
use Rattle.kp_graph.specs.View.{nodes_view}
use Rattle.kp_graph.specs.declared.tree.Tree.{Tree}

abbrev pub tree_view : Tree → List ProofNode
tree_view t = nodes_view t.nodes.items
