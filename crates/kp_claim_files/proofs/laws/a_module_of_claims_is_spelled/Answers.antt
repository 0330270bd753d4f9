use Rattle.kp_claim_files.proofs.Spelled.{spelled}
use Rattle.kp_claim_files.proofs.laws.a_module_of_claims_is_spelled.Goals as goal

pub returns : goal.returns
returns c = spelled
