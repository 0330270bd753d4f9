use Rattle.kp_symbolic_laws.proofs.OwnBounds.{only_bits}
use Rattle.kp_symbolic_laws.proofs.deciding.easy_states_show_no_weight_but_bits.Goals as goal

pub returns : goal.returns
returns c = only_bits
