use Rattle.kp_round_laws.proofs.ProofsSay.{arcs_say}
use Rattle.kp_round_laws.proofs.TreesFrom.{tree_begins}
use Rattle.kp_round_laws.proofs.laws.the_arcs_of_a_proof_say_what_they_say.Goals as goal

pub returns-clause-begins : goal.returns-clause-begins
returns-clause-begins c = tree_begins

pub returns-clause-says : goal.returns-clause-says
returns-clause-says c = arcs_say
