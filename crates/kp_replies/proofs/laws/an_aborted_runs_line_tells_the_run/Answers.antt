use Rattle.kp_replies.proofs.AbortedBack.{aborted_back, aborted_no_implication}
use Rattle.kp_replies.proofs.laws.an_aborted_runs_line_tells_the_run.Goals as goal

pub returns-clause-alone : goal.returns-clause-alone
returns-clause-alone c = aborted_back

pub returns-clause-nothing : goal.returns-clause-nothing
returns-clause-nothing c = aborted_no_implication
