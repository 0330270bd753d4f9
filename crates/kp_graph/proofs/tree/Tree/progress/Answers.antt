use Rattle.std.proofs.Common.{◌≡◌, sym, ◌∙◌}
use Rattle.kp_graph.specs.Tree.{progress_at}
use Rattle.kp_graph.specs.View.{nodes_view}
use Rattle.kp_graph.proofs.Places.{kept_flag}
use Rattle.kp_graph.proofs.PathLemmas.{kept_progress, progress_kept}
use Rattle.kp_graph.proofs.tree.Tree.progress.Goals as goal

pub returns : goal.returns
returns c =
    let flag : progress_at (nodes_view c.args.self.now.nodes.items) c.args.node.number ≡ c.index.result.now.progress = kept_flag c.args.self.now.nodes.items c.args.node.number c.index.result.now c.requires.0 c.requires.1 c.index.ensures in
    (λ e. kept_progress (nodes_view c.args.self.now.nodes.items) c.args.self.now.shape c.args.node.number c.requires.0 c.requires.1 (flag ∙ e), λ h. sym flag ∙ progress_kept (nodes_view c.args.self.now.nodes.items) c.args.self.now.shape c.args.node.number h)
