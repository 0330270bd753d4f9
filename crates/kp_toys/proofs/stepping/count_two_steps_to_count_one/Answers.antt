use Rattle.kp_toys.proofs.Matching.{count_two}
use Rattle.kp_toys.proofs.stepping.count_two_steps_to_count_one.Goals as goal

pub returns : goal.returns
returns c = count_two
