use Rattle.kp_replies.proofs.Methods.{told_nexts}
use Rattle.kp_replies.proofs.laws.next_states_that_are_read_stand_with_their_reason.Goals as goal

pub returns : goal.returns
returns c = told_nexts
