use Rattle.kp_solving.proofs.RefinedLemmas.{refined_instance}
use Rattle.kp_solving.proofs.laws.terms_in_place_of_variables_restrict_a_state.Goals as goal

pub returns : goal.returns
returns c = refined_instance
