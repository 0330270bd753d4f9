use Rattle.kp_replies.proofs.Texts.{implied_read}
use Rattle.kp_replies.proofs.laws.what_is_implied_is_read.Goals as goal

pub returns : goal.returns
returns c = implied_read
