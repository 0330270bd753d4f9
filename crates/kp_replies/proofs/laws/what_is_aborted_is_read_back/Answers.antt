use Rattle.kp_replies.proofs.AbortedBack.{aborted_read_back}
use Rattle.kp_replies.proofs.laws.what_is_aborted_is_read_back.Goals as goal

pub returns : goal.returns
returns c = aborted_read_back
