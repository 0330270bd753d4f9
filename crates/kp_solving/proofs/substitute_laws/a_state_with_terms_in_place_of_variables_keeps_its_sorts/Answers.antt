use Rattle.kp_solving.proofs.SubstitutedSorts.{sorted_kept}
use Rattle.kp_solving.proofs.substitute_laws.a_state_with_terms_in_place_of_variables_keeps_its_sorts.Goals as goal

pub returns : goal.returns
returns c = sorted_kept
