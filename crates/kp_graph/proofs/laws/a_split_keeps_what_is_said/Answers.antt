use Rattle.kp_graph.proofs.SaidLemmas.{split_says}
use Rattle.kp_graph.proofs.laws.a_split_keeps_what_is_said.Goals as goal

pub returns : goal.returns
returns c = split_says
