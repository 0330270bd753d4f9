use Rattle.kp_step.proofs.Excluded.{fires_by_clauses}
use Rattle.kp_step.proofs.laws.a_rule_fires_by_the_clauses.Goals as goal

pub returns : goal.returns
returns c = fires_by_clauses
