use Rattle.kp_kore.proofs.Soundness.{proof_with_its_claim}
use Rattle.kp_kore.proofs.claim_laws.a_proof_with_its_claim_as_circularity_is_sound.Goals as goal

pub returns : goal.returns
returns c = proof_with_its_claim
