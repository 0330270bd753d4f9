use Rattle.kp_toys.proofs.Choosing.{smaller_number_steps, only_the_smaller_has_its_turn}
use Rattle.kp_toys.proofs.stepping.the_smaller_number_has_its_turn.Goals as goal

pub returns-clause-steps : goal.returns-clause-steps
returns-clause-steps c = smaller_number_steps

pub returns-clause-turn : goal.returns-clause-turn
returns-clause-turn c = only_the_smaller_has_its_turn.0

pub returns-clause-no_turn : goal.returns-clause-no_turn
returns-clause-no_turn c = only_the_smaller_has_its_turn.1
