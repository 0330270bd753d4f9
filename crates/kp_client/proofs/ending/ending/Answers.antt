use Rattle.std.proofs.Common.{subst, Option}
use Rattle.std.specs.Option.{IfSome, IfNone}
use Rattle.kp_graph.specs.View.{why_view}
use Rattle.kp_graph.specs.TreeView.{tree_view}
use Rattle.kp_graph.specs.declared.node.NodeId.{NodeId}
use Rattle.kp_graph.specs.declared.node.Why.{Why}
use Rattle.kp_client.specs.Answers.{none_held, first_held}
use Rattle.kp_client.specs.Rounds.{IsNoneHeld, IsFirstHeld}
use Rattle.kp_client.proofs.ending.ending.Goals as goal

pub returns-in-Some : goal.returns-in-Some
returns-in-Some c =
    first_held c.in-Some.node.number (why_view c.in-Some.why)
    (subst (λ (o : Option (NodeId × Why)). IfSome o (λ h. IsFirstHeld (tree_view c.args.tree.now) h.0.number (why_view h.1))) c.in-Some.is c.in_ok-node.ensures.found)

pub returns-in-None : goal.returns-in-None
returns-in-None c = none_held (subst (λ (o : Option (NodeId × Why)). IfNone o (IsNoneHeld (tree_view c.args.tree.now))) c.in-None.is c.in_ok-node.ensures.none)
