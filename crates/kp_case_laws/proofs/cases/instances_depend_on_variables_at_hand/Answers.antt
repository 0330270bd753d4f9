use Rattle.kp_case_laws.proofs.HandLemmas.{depends_on_hand}
use Rattle.kp_case_laws.proofs.cases.instances_depend_on_variables_at_hand.Goals as goal

pub returns : goal.returns
returns c = depends_on_hand
