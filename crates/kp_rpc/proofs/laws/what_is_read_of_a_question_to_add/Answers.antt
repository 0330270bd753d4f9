use Rattle.kp_rpc.proofs.QuestionsRead.{add_module_frame_read, add_module_read}
use Rattle.kp_rpc.proofs.laws.what_is_read_of_a_question_to_add.Goals as goal

pub returns-clause-tree : goal.returns-clause-tree
returns-clause-tree c = add_module_frame_read

pub returns-clause-request : goal.returns-clause-request
returns-clause-request c = add_module_read
