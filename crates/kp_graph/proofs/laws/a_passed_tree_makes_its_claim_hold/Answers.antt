use Rattle.kp_graph.proofs.SaysLemmas.{passed_holds}
use Rattle.kp_graph.proofs.laws.a_passed_tree_makes_its_claim_hold.Goals as goal

pub returns : goal.returns
returns c = passed_holds
