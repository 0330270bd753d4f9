use Rattle.kp_kore.specs.Syntax.{KorePattern}
use Rattle.kp_graph.proofs.Places.{read}
use Rattle.kp_graph.proofs.tree.Tree.state.Goals as goal

pub returns : goal.returns
returns c = read KorePattern (λ x. x.state) c.args.self.now.nodes.items c.args.node.number c.index.result.now c.requires.0 c.requires.1 c.index.ensures
