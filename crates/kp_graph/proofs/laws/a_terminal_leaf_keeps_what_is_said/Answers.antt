use Rattle.kp_graph.proofs.SaidLemmas.{terminal_says}
use Rattle.kp_graph.proofs.laws.a_terminal_leaf_keeps_what_is_said.Goals as goal

pub returns : goal.returns
returns c = terminal_says
