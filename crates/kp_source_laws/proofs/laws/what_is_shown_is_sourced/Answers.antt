use Rattle.kp_source_laws.proofs.ShownLemmas.{shown_sourced, shown_in_theory}
use Rattle.kp_source_laws.proofs.laws.what_is_shown_is_sourced.Goals as goal

pub returns-clause-by_rules : goal.returns-clause-by_rules
returns-clause-by_rules c = shown_sourced

pub returns-clause-in_theory : goal.returns-clause-in_theory
returns-clause-in_theory c = shown_in_theory
