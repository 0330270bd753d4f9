use Rattle.kp_round_laws.proofs.PassedProofs.{passed_proof_holds}
use Rattle.kp_round_laws.proofs.laws.a_passed_proof_makes_its_claim_hold.Goals as goal

pub returns : goal.returns
returns c = passed_proof_holds
