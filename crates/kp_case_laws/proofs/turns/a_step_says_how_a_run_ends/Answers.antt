use Rattle.kp_case_laws.proofs.EndLaws.{says_stuck, says_branching, says_cut_point, says_some, says_none, gives_values}
use Rattle.kp_case_laws.proofs.turns.a_step_says_how_a_run_ends.Goals as goal

pub returns-clause-stuck : goal.returns-clause-stuck
returns-clause-stuck c = says_stuck

pub returns-clause-branching : goal.returns-clause-branching
returns-clause-branching c = says_branching

pub returns-clause-cut_point : goal.returns-clause-cut_point
returns-clause-cut_point c = says_cut_point

pub returns-clause-some : goal.returns-clause-some
returns-clause-some c = says_some

pub returns-clause-none : goal.returns-clause-none
returns-clause-none c = says_none

pub returns-clause-values : goal.returns-clause-values
returns-clause-values c = gives_values
