use Rattle.kp_case_laws.proofs.NextStateLemmas.{next_states}
use Rattle.kp_case_laws.proofs.turns.a_step_gives_the_next_states.Goals as goal

pub returns : goal.returns
returns c = next_states
