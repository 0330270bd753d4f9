use Rattle.kp_replies.proofs.Alone.{implication_line_alone, implication_line_no_run}
use Rattle.kp_replies.proofs.laws.an_implications_line_tells_the_implication.Goals as goal

pub returns-clause-alone : goal.returns-clause-alone
returns-clause-alone c = implication_line_alone

pub returns-clause-nothing : goal.returns-clause-nothing
returns-clause-nothing c = implication_line_no_run
