use Rattle.kp_replies.proofs.Alone.{run_line_alone, run_line_no_implication}
use Rattle.kp_replies.proofs.laws.a_runs_line_tells_the_run.Goals as goal

pub returns-clause-alone : goal.returns-clause-alone
returns-clause-alone c = run_line_alone

pub returns-clause-nothing : goal.returns-clause-nothing
returns-clause-nothing c = run_line_no_implication
