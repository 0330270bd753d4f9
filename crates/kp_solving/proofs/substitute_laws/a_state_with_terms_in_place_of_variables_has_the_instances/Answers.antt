use Rattle.kp_solving.proofs.SubstitutedInstances.{sorted_instance}
use Rattle.kp_solving.proofs.substitute_laws.a_state_with_terms_in_place_of_variables_has_the_instances.Goals as goal

pub returns : goal.returns
returns c = sorted_instance
