use Rattle.kp_case_laws.proofs.FiringLemmas.{excluded_part, parts_apart, untouched_part, never_fires, always_fires}
use Rattle.kp_case_laws.proofs.turns.a_rule_is_excluded.Goals as goal

pub returns-clause-met : goal.returns-clause-met
returns-clause-met c = excluded_part

pub returns-clause-apart : goal.returns-clause-apart
returns-clause-apart c = parts_apart

pub returns-clause-untouched : goal.returns-clause-untouched
returns-clause-untouched c = untouched_part

pub returns-clause-nowhere : goal.returns-clause-nowhere
returns-clause-nowhere c = never_fires

pub returns-clause-everywhere : goal.returns-clause-everywhere
returns-clause-everywhere c = always_fires
