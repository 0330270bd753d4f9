use Rattle.kp_symbolic_laws.proofs.FormedSteps.{read_well_formed}
use Rattle.kp_symbolic_laws.proofs.solving.a_verified_pattern_is_read_as_a_well_formed_state.Goals as goal

pub returns : goal.returns
returns c = read_well_formed
