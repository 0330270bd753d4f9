use Rattle.kp_kore.proofs.ClaimTheories.{module_axioms}
use Rattle.kp_kore.proofs.claim_laws.a_module_of_claims_holds_their_axioms.Goals as goal

pub returns : goal.returns
returns c = module_axioms
