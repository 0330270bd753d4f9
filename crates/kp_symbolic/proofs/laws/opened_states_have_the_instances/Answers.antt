use Rattle.kp_symbolic.proofs.OpenedState.{opened_instances, opened_term_sorted}
use Rattle.kp_symbolic.proofs.laws.opened_states_have_the_instances.Goals as goal

pub returns-clause-instances : goal.returns-clause-instances
returns-clause-instances c = opened_instances

pub returns-clause-term : goal.returns-clause-term
returns-clause-term c = opened_term_sorted
