use Rattle.kp_kore.proofs.ClaimTheories.{claims_theory, ids_stay}
use Rattle.kp_kore.proofs.claim_laws.a_module_of_claims_means_main_with_the_claims_as_rules.Goals as goal

pub returns-clause-theory : goal.returns-clause-theory
returns-clause-theory c = claims_theory

pub returns-clause-ids : goal.returns-clause-ids
returns-clause-ids c = ids_stay
