use Rattle.kp_graph.proofs.SaidLemmas.{stuck_says}
use Rattle.kp_graph.proofs.laws.a_stuck_leaf_keeps_what_is_said.Goals as goal

pub returns : goal.returns
returns c = stuck_says
