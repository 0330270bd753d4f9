use Rattle.kp_kore.proofs.Soundness.{proof_without_circularities}
use Rattle.kp_kore.proofs.claim_laws.a_proof_without_circularities_is_sound.Goals as goal

pub returns : goal.returns
returns c = proof_without_circularities
