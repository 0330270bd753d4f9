use Rattle.kp_toys.proofs.Choosing.{call_is_any_number, call_is_no_other_head}
use Rattle.kp_toys.proofs.stepping.a_call_in_a_foreign_left_is_any_value.Goals as goal

pub returns-clause-any : goal.returns-clause-any
returns-clause-any c = call_is_any_number

pub returns-clause-other_head : goal.returns-clause-other_head
returns-clause-other_head c = call_is_no_other_head
