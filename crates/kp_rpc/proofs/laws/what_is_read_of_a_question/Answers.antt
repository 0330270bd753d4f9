use Rattle.kp_rpc.proofs.QuestionsRead.{execute_read}
use Rattle.kp_rpc.proofs.laws.what_is_read_of_a_question.Goals as goal

pub returns : goal.returns
returns c = execute_read
