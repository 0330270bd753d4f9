use Rattle.kp_round_laws.proofs.Targets.{binds_once}
use Rattle.kp_round_laws.proofs.laws.a_target_binds_each_name_once.Goals as goal

pub returns : goal.returns
returns c = binds_once
