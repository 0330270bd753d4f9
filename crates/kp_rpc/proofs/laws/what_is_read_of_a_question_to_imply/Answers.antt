use Rattle.kp_rpc.proofs.QuestionsRead.{implies_read}
use Rattle.kp_rpc.proofs.laws.what_is_read_of_a_question_to_imply.Goals as goal

pub returns : goal.returns
returns c = implies_read
