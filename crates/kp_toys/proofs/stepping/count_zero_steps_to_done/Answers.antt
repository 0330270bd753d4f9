use Rattle.kp_toys.proofs.Matching.{count_zero}
use Rattle.kp_toys.proofs.stepping.count_zero_steps_to_done.Goals as goal

pub returns : goal.returns
returns c = count_zero
