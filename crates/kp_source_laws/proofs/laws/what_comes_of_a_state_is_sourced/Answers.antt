use Rattle.kp_source_laws.proofs.ShownLemmas.{by_rules, in_theory, grown_sourced}
use Rattle.kp_source_laws.proofs.laws.what_comes_of_a_state_is_sourced.Goals as goal

pub returns-clause-by_rules : goal.returns-clause-by_rules
returns-clause-by_rules c = by_rules

pub returns-clause-in_theory : goal.returns-clause-in_theory
returns-clause-in_theory c = in_theory

pub returns-clause-new : goal.returns-clause-new
returns-clause-new c = grown_sourced
