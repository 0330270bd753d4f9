use Rattle.kp_graph.proofs.SaidLemmas.{branch_says}
use Rattle.kp_graph.proofs.laws.a_branch_keeps_what_is_said.Goals as goal

pub returns : goal.returns
returns c = branch_says
