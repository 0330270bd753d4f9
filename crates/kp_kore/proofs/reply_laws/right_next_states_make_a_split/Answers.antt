use Rattle.kp_kore.proofs.Splitting.{next_states_split}
use Rattle.kp_kore.proofs.reply_laws.right_next_states_make_a_split.Goals as goal

pub returns : goal.returns
returns c = next_states_split
