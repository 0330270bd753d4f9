use Rattle.kp_symbolic_laws.proofs.Easy.{easy_decided}
use Rattle.kp_symbolic_laws.proofs.deciding.states_that_are_easy_beside_rules_are_decided.Goals as goal

pub returns : goal.returns
returns c = easy_decided
