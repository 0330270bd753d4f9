use Rattle.std.proofs.Common.{Option, ℕ}
use Rattle.kp_graph.proofs.Places.{read}
use Rattle.kp_graph.proofs.tree.Tree.parent.Goals as goal

pub returns : goal.returns
returns c = read (Option ℕ) (λ x. x.parent) c.args.self.now.nodes.items c.args.node.number c.index.result.now c.requires.0 c.requires.1 c.index.ensures
