use Rattle.kp_step.proofs.Excluded.{excluded_by_opposite}
use Rattle.kp_step.proofs.laws.a_rule_is_excluded_by_the_opposite.Goals as goal

pub returns : goal.returns
returns c = excluded_by_opposite
