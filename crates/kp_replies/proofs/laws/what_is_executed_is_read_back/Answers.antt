use Rattle.kp_replies.proofs.Back.{executed_read_back}
use Rattle.kp_replies.proofs.laws.what_is_executed_is_read_back.Goals as goal

pub returns : goal.returns
returns c = executed_read_back
