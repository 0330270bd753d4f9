use Rattle.kp_toys.proofs.Choosing.{two_choices}
use Rattle.kp_toys.proofs.stepping.each_step_chooses_anew.Goals as goal

pub returns : goal.returns
returns c = two_choices
