use Rattle.kp_replies.proofs.Methods.{line_of_method}
use Rattle.kp_replies.proofs.laws.a_reply_is_of_its_method.Goals as goal

pub returns : goal.returns
returns c = line_of_method
