-- What a proof says of its claim, where the link's replies are right for a theory.
-- Source: All-Path Reachability Logic; matching logic.
use Rattle.std.specs.Prelude.{◌≡◌, ℕ, List, [], Some}
use Rattle.kp_kore.specs.Parts.{free_variables}
use Rattle.kp_kore.specs.Theory.{Theory}
use Rattle.kp_kore.specs.Claims.{ReachabilityClaim}
use Rattle.kp_kore.specs.Arcs.{StuckSays}
use Rattle.kp_kore.specs.Implied.{HasCounterexample}
use Rattle.kp_graph.specs.Tree.{ProofNode, node_at, stuck}

-- no side has a variable
pub record IsGround (claim : ReachabilityClaim) : Type 0 where
  pub left : free_variables claim.left ≡ []
  pub right : free_variables claim.right ≡ []

-- node n is stuck: each instance of its state is final, and some instance is none of the claim's right side
pub record IsStuckAt (t : Theory) (claim : ReachabilityClaim) (tree : List ProofNode) (n : ℕ) : Type 0 where
  pub node : ProofNode
  pub at : node_at tree n ≡ Some node
  pub arc : node.arc ≡ Some stuck
  pub final : StuckSays t node.state
  pub uncovered : HasCounterexample t.signature node.state claim.right
