use Rattle.kp_graph.proofs.SaidLemmas.{hold_says}
use Rattle.kp_graph.proofs.laws.a_hold_keeps_what_is_said.Goals as goal

pub returns : goal.returns
returns c = hold_says
