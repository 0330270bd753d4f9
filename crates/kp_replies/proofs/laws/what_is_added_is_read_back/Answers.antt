use Rattle.kp_replies.proofs.Back.{added_read_back}
use Rattle.kp_replies.proofs.laws.what_is_added_is_read_back.Goals as goal

pub returns : goal.returns
returns c = added_read_back
