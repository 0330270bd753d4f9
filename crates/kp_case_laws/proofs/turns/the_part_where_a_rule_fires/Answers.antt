use Rattle.kp_case_laws.proofs.FiringLemmas.{firing_part, no_firing_part}
use Rattle.kp_case_laws.proofs.turns.the_part_where_a_rule_fires.Goals as goal

pub returns-clause-one : goal.returns-clause-one
returns-clause-one c = firing_part

pub returns-clause-none : goal.returns-clause-none
returns-clause-none c = no_firing_part
