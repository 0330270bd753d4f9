use Rattle.kp_replies.proofs.Back.{simplified_read_back}
use Rattle.kp_replies.proofs.laws.what_is_simplified_is_read_back.Goals as goal

pub returns : goal.returns
returns c = simplified_read_back
