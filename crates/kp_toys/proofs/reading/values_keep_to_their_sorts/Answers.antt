use Rattle.kp_toys.proofs.Sorts.{int_is_expression, int_is_no_state, made_is_no_int}
use Rattle.kp_toys.proofs.reading.values_keep_to_their_sorts.Goals as goal

pub returns-clause-no_state : goal.returns-clause-no_state
returns-clause-no_state c = int_is_no_state

pub returns-clause-no_number : goal.returns-clause-no_number
returns-clause-no_number c = made_is_no_int

pub returns-clause-above : goal.returns-clause-above
returns-clause-above c = int_is_expression
