use Rattle.kp_replies.proofs.Back.{error_read_back}
use Rattle.kp_replies.proofs.laws.an_error_is_read_back.Goals as goal

pub returns : goal.returns
returns c = error_read_back
