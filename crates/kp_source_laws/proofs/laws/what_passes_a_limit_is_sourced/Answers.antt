use Rattle.kp_source_laws.proofs.ShownLemmas.{condition_sourced, case_sourced}
use Rattle.kp_source_laws.proofs.laws.what_passes_a_limit_is_sourced.Goals as goal

pub returns-clause-condition : goal.returns-clause-condition
returns-clause-condition c = condition_sourced

pub returns-clause-written : goal.returns-clause-written
returns-clause-written c = case_sourced
