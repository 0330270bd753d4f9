use Rattle.kp_toys.proofs.Choosing.{vg_steps_exactly}
use Rattle.kp_toys.proofs.stepping.vg_steps_to_each_vh.Goals as goal

pub returns : goal.returns
returns c = vg_steps_exactly
