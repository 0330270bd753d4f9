use Rattle.kp_symbolic_laws.proofs.Course.{step_sorted}
use Rattle.kp_symbolic_laws.proofs.Step.{step_instance}
use Rattle.kp_symbolic_laws.proofs.solving.a_step_keeps_sorts_and_instances.Goals as goal

pub returns-clause-sorts : goal.returns-clause-sorts
returns-clause-sorts c = step_sorted

pub returns-clause-instances : goal.returns-clause-instances
returns-clause-instances c = step_instance
