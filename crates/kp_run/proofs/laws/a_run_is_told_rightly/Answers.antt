use Rattle.kp_run.proofs.Runs.{run_is_told}
use Rattle.kp_run.proofs.laws.a_run_is_told_rightly.Goals as goal

pub returns : goal.returns
returns c = run_is_told
