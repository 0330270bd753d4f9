use Rattle.std.proofs.Common.{Option, ◌∙◌, ap, sym, Some}
use Rattle.kp_graph.specs.Tree.{HeldBy}
use Rattle.kp_graph.specs.View.{why_view}
use Rattle.kp_graph.specs.declared.node.Why.{Why}
use Rattle.kp_graph.proofs.Places.{read, seen_through}
use Rattle.kp_graph.proofs.tree.Tree.held.Goals as goal

pub returns : goal.returns
returns c =
    read (Option HeldBy) (λ x. x.held) c.args.self.now.nodes.items c.args.node.number c.index.result.now c.requires.0 c.requires.1 c.index.ensures
    ∙ ap Some (sym (seen_through Why HeldBy why_view c.as_ref.result c.index.result.now.held c.as_ref.ensures.value))
