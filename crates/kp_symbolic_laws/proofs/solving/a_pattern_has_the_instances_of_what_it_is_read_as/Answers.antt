use Rattle.kp_symbolic_laws.proofs.ReadState.{opened_sorted, read_sorted, read_instances}
use Rattle.kp_symbolic_laws.proofs.solving.a_pattern_has_the_instances_of_what_it_is_read_as.Goals as goal

pub returns-clause-opened : goal.returns-clause-opened
returns-clause-opened c = opened_sorted

pub returns-clause-read : goal.returns-clause-read
returns-clause-read c = read_sorted

pub returns-clause-instances : goal.returns-clause-instances
returns-clause-instances c = read_instances
