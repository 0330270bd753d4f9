use Rattle.kp_execute.proofs.ResultLemmas.{says_right}
use Rattle.kp_execute.proofs.laws.a_run_as_it_is_written_means_a_right_result.Goals as goal

pub returns : goal.returns
returns c = says_right
