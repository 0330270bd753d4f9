use Rattle.kp_replies.proofs.Methods.{told_state}
use Rattle.kp_replies.proofs.laws.a_read_state_is_spelled.Goals as goal

pub returns : goal.returns
returns c = told_state
