use Rattle.kp_graph.proofs.SaidLemmas.{cover_says}
use Rattle.kp_graph.proofs.laws.a_cover_keeps_what_is_said.Goals as goal

pub returns : goal.returns
returns c = cover_says
