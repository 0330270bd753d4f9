use Rattle.kp_replies.proofs.Back.{failure_read_back}
use Rattle.kp_replies.proofs.laws.a_failure_is_read_back.Goals as goal

pub returns : goal.returns
returns c = failure_read_back
