use Rattle.kp_graph.proofs.SaidLemmas.{vacuous_says}
use Rattle.kp_graph.proofs.laws.a_vacuous_leaf_keeps_what_is_said.Goals as goal

pub returns : goal.returns
returns c = vacuous_says
