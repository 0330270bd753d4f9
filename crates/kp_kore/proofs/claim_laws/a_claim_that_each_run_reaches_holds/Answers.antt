use Rattle.kp_kore.proofs.Soundness.{runs_reach}
use Rattle.kp_kore.proofs.claim_laws.a_claim_that_each_run_reaches_holds.Goals as goal

pub returns : goal.returns
returns c = runs_reach
