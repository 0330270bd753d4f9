use Rattle.kp_replies.proofs.Texts.{added_line}
use Rattle.kp_replies.proofs.laws.an_added_modules_line_tells_its_id.Goals as goal

pub returns : goal.returns
returns c = added_line
