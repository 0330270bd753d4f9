use Rattle.kp_replies.proofs.Texts.{failure_line}
use Rattle.kp_replies.proofs.laws.a_failures_line_tells_its_code.Goals as goal

pub returns : goal.returns
returns c = failure_line
