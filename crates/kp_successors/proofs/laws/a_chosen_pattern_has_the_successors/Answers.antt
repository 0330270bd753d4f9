use Rattle.kp_successors.proofs.ChosenSteps.{chosen_is_led}
use Rattle.kp_successors.proofs.laws.a_chosen_pattern_has_the_successors.Goals as goal

pub returns : goal.returns
returns c = chosen_is_led
