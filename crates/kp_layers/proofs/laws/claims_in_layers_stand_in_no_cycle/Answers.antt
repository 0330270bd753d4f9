use Rattle.kp_layers.proofs.Layered.{no_cycle}
use Rattle.kp_layers.proofs.laws.claims_in_layers_stand_in_no_cycle.Goals as goal

pub returns : goal.returns
returns c = no_cycle
