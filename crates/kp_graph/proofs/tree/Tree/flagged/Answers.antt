use Rattle.std.proofs.Common.{Bool}
use Rattle.kp_graph.proofs.Places.{read}
use Rattle.kp_graph.proofs.tree.Tree.flagged.Goals as goal

pub returns : goal.returns
returns c = read Bool (λ x. x.flagged) c.args.self.now.nodes.items c.args.node.number c.index.result.now c.requires.0 c.requires.1 c.index.ensures
