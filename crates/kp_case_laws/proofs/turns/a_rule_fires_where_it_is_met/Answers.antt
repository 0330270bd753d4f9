use Rattle.kp_case_laws.proofs.FiringLemmas.{fires_where_met, fires_nowhere_else}
use Rattle.kp_case_laws.proofs.turns.a_rule_fires_where_it_is_met.Goals as goal

pub returns-clause-met : goal.returns-clause-met
returns-clause-met c = fires_where_met

pub returns-clause-apart : goal.returns-clause-apart
returns-clause-apart c = fires_nowhere_else
