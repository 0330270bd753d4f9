use Rattle.std.proofs.Common.{sym, ◌∙◌}
use Rattle.kp_graph.specs.View.{nodes_view}
use Rattle.kp_graph.proofs.StatusLemmas.{status_failed, status_passed, status_pending}
use Rattle.kp_graph.proofs.tree.Tree.status.Goals as goal

pub returns-then-self : goal.returns-then-self
returns-then-self c = sym (status_failed (nodes_view c.args.self.now.nodes.items) (sym c.args.self.now.some_failed ∙ c.if-self.true))

pub returns-then-self-eq0 : goal.returns-then-self-eq0
returns-then-self-eq0 c = sym (status_passed (nodes_view c.args.self.now.nodes.items) (sym c.args.self.now.some_failed ∙ c.if-self.false) (sym c.args.self.now.counted ∙ c.if-self-eq0.true))

pub returns-else-self-eq0 : goal.returns-else-self-eq0
returns-else-self-eq0 c = sym (status_pending (nodes_view c.args.self.now.nodes.items) (sym c.args.self.now.some_failed ∙ c.if-self.false) (λ z. c.if-self-eq0.false (c.args.self.now.counted ∙ z)))
