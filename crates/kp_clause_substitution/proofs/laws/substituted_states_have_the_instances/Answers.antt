use Rattle.kp_clause_substitution.proofs.StateLemmas.{substituted_instance}
use Rattle.kp_clause_substitution.proofs.laws.substituted_states_have_the_instances.Goals as goal

pub returns : goal.returns
returns c = substituted_instance
