use Rattle.kp_symbolic.proofs.CallOpening.{opened_same_says, opened_truth_says}
use Rattle.kp_symbolic.proofs.laws.opened_terms_say_what_they_said.Goals as goal

pub returns-clause-equality : goal.returns-clause-equality
returns-clause-equality c = opened_same_says

pub returns-clause-expression : goal.returns-clause-expression
returns-clause-expression c = opened_truth_says
