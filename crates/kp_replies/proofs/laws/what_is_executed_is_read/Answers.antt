use Rattle.kp_replies.proofs.Texts.{executed_read}
use Rattle.kp_replies.proofs.laws.what_is_executed_is_read.Goals as goal

pub returns : goal.returns
returns c = executed_read
