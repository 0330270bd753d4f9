use Rattle.kp_graph.proofs.SaysLemmas.{passed_holds_by_itself, passed_holds_alone}
use Rattle.kp_graph.proofs.laws.a_passed_tree_of_one_claim_makes_it_hold.Goals as goal

pub returns-clause-by_itself : goal.returns-clause-by_itself
returns-clause-by_itself c = passed_holds_by_itself

pub returns-clause-alone : goal.returns-clause-alone
returns-clause-alone c = passed_holds_alone
