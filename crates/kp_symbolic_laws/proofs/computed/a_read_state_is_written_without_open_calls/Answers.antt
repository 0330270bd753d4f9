use Rattle.kp_symbolic_laws.proofs.ReadStates.{reordered_is_computed}
use Rattle.kp_symbolic_laws.proofs.computed.a_read_state_is_written_without_open_calls.Goals as goal

pub returns : goal.returns
returns r = reordered_is_computed
