use Rattle.kp_kore.proofs.Soundness.{steps_hold}
use Rattle.kp_kore.proofs.claim_laws.claims_that_hold_one_step_further_hold.Goals as goal

pub returns : goal.returns
returns c = steps_hold
