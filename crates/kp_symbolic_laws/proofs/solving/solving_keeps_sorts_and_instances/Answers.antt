use Rattle.kp_symbolic_laws.proofs.Course.{solving_sorted, solving_instance}
use Rattle.kp_symbolic_laws.proofs.solving.solving_keeps_sorts_and_instances.Goals as goal

pub returns-clause-sorts : goal.returns-clause-sorts
returns-clause-sorts c = solving_sorted

pub returns-clause-instances : goal.returns-clause-instances
returns-clause-instances c = solving_instance
