use Rattle.kp_clause_demands.proofs.WayLemmas.{says}
use Rattle.kp_clause_demands.proofs.laws.comparisons_are_their_ways.Goals as goal

pub returns : goal.returns
returns c = says
