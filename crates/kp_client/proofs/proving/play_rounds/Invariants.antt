use Rattle.kp_kore.specs.ClaimView.{claim_view}
use Rattle.kp_graph.specs.TreeView.{tree_view}
use Rattle.kp_client.specs.Answers.{Played}
use Rattle.kp_client.proofs.proving.play_rounds.Given as goal

abbrev pub invariant-loop-round : goal.invariant-loop-round
invariant-loop-round g l = Played (g.L.Link.told l.fn.link) (g.L.Link.told l.link) (claim_view l.claim) l.max_depth l.round (tree_view l.tree)
