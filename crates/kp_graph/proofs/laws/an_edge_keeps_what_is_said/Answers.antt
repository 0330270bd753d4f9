use Rattle.kp_graph.proofs.SaidLemmas.{edge_says}
use Rattle.kp_graph.proofs.laws.an_edge_keeps_what_is_said.Goals as goal

pub returns : goal.returns
returns c = edge_says
