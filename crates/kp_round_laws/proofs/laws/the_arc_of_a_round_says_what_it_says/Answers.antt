use Rattle.kp_round_laws.proofs.RoundsSay.{round_says}
use Rattle.kp_round_laws.proofs.laws.the_arc_of_a_round_says_what_it_says.Goals as goal

pub returns : goal.returns
returns c = round_says
