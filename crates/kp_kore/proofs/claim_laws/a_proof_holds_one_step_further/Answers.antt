use Rattle.kp_kore.proofs.Soundness.{proof_steps}
use Rattle.kp_kore.proofs.claim_laws.a_proof_holds_one_step_further.Goals as goal

pub returns : goal.returns
returns c = proof_steps
