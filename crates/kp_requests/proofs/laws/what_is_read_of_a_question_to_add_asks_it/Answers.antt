use Rattle.kp_requests.proofs.Back.{question_to_add_read}
use Rattle.kp_requests.proofs.laws.what_is_read_of_a_question_to_add_asks_it.Goals as goal

pub returns : goal.returns
returns c = question_to_add_read
