use Rattle.kp_step.proofs.Excluded.{condition_says, condition_right}
use Rattle.kp_step.proofs.laws.conditions_say_what_they_said.Goals as goal

pub returns-clause-truth : goal.returns-clause-truth
returns-clause-truth c = condition_says

pub returns-clause-right : goal.returns-clause-right
returns-clause-right c = condition_right
