use Rattle.kp_case_laws.proofs.RunLaws.{begins, passes_none, goes_on, passes_on, ends_by}
use Rattle.kp_case_laws.proofs.turns.a_run_goes_on_by_one_rule_alone.Goals as goal

pub returns-clause-begins : goal.returns-clause-begins
returns-clause-begins c = begins

pub returns-clause-passes_none : goal.returns-clause-passes_none
returns-clause-passes_none c = passes_none

pub returns-clause-goes_on : goal.returns-clause-goes_on
returns-clause-goes_on c = goes_on

pub returns-clause-passes : goal.returns-clause-passes
returns-clause-passes c = passes_on

pub returns-clause-ends : goal.returns-clause-ends
returns-clause-ends c = ends_by
