use Rattle.kp_symbolic.proofs.Replacing.{replaced_is, solved_term_is}
use Rattle.kp_symbolic.proofs.laws.replacing_keeps_instances.Goals as goal

pub returns-clause-replaced : goal.returns-clause-replaced
returns-clause-replaced c = replaced_is

pub returns-clause-solved : goal.returns-clause-solved
returns-clause-solved c = solved_term_is
