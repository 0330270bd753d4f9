use Rattle.std.proofs.Common.{Option, ◌∙◌, ap, sym, Some}
use Rattle.kp_graph.specs.Tree.{NodeArc}
use Rattle.kp_graph.specs.View.{arc_view}
use Rattle.kp_graph.specs.declared.node.TreeArc.{TreeArc}
use Rattle.kp_graph.proofs.Places.{read, seen_through}
use Rattle.kp_graph.proofs.tree.Tree.arc.Goals as goal

pub returns : goal.returns
returns c =
    read (Option NodeArc) (λ x. x.arc) c.args.self.now.nodes.items c.args.node.number c.index.result.now c.requires.0 c.requires.1 c.index.ensures
    ∙ ap Some (sym (seen_through TreeArc NodeArc arc_view c.as_ref.result c.index.result.now.arc c.as_ref.ensures.value))
