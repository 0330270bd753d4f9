use Rattle.kp_replies.proofs.ErrorLines.{error_line}
use Rattle.kp_replies.proofs.laws.an_errors_line_tells_its_code.Goals as goal

pub returns : goal.returns
returns c = error_line
