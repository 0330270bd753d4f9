use Rattle.kp_replies.proofs.Back.{implied_read_back}
use Rattle.kp_replies.proofs.laws.what_is_implied_is_read_back.Goals as goal

pub returns : goal.returns
returns c = implied_read_back
