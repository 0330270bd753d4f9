use Rattle.kp_kore.proofs.Branching.{next_states_branch}
use Rattle.kp_kore.proofs.reply_laws.right_next_states_make_a_branch.Goals as goal

pub returns : goal.returns
returns c = next_states_branch
