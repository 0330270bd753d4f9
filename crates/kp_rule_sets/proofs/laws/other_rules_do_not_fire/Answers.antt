use Rattle.kp_rule_sets.proofs.Topped.{not_met, not_admitted}
use Rattle.kp_rule_sets.proofs.laws.other_rules_do_not_fire.Goals as goal

pub returns-clause-read : goal.returns-clause-read
returns-clause-read c = not_met

pub returns-clause-foreign : goal.returns-clause-foreign
returns-clause-foreign c = not_admitted
