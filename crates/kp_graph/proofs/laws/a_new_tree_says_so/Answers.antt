use Rattle.kp_graph.proofs.SaidLemmas.{new_says}
use Rattle.kp_graph.proofs.laws.a_new_tree_says_so.Goals as goal

pub returns : goal.returns
returns c = new_says
