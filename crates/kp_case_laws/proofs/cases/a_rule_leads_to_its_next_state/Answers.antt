use Rattle.kp_case_laws.proofs.NextLemmas.{next_found, next_follows}
use Rattle.kp_case_laws.proofs.cases.a_rule_leads_to_its_next_state.Goals as goal

pub returns-clause-found : goal.returns-clause-found
returns-clause-found c = next_found

pub returns-clause-only : goal.returns-clause-only
returns-clause-only c = next_follows
