use Rattle.kp_solving.proofs.FurtherLemmas.{restricted}
use Rattle.kp_solving.proofs.laws.further_clauses_restrict_a_state.Goals as goal

pub returns : goal.returns
returns c = restricted
