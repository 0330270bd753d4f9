use Rattle.kp_round_laws.proofs.FailedProofs.{failed_proof_fails}
use Rattle.kp_round_laws.proofs.laws.a_failed_proof_fails_at_its_node.Goals as goal

pub returns : goal.returns
returns c = failed_proof_fails
