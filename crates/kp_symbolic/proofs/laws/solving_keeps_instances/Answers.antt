use Rattle.kp_symbolic.proofs.Solved.{solved_clauses_say, solved_instance}
use Rattle.kp_symbolic.proofs.laws.solving_keeps_instances.Goals as goal

pub returns-clause-clauses : goal.returns-clause-clauses
returns-clause-clauses c = solved_clauses_say

pub returns-clause-instances : goal.returns-clause-instances
returns-clause-instances c = solved_instance
