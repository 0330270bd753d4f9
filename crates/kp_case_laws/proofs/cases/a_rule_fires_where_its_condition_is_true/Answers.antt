use Rattle.kp_case_laws.proofs.Firing.{fires_where, fires_never}
use Rattle.kp_case_laws.proofs.cases.a_rule_fires_where_its_condition_is_true.Goals as goal

pub returns-clause-met : goal.returns-clause-met
returns-clause-met c = fires_where

pub returns-clause-apart : goal.returns-clause-apart
returns-clause-apart c = fires_never
