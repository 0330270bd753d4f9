use Rattle.kp_case_laws.proofs.AloneSteps.{leads_on}
use Rattle.kp_case_laws.proofs.LoneRule.{has_turn_alone}
use Rattle.kp_case_laws.proofs.turns.a_rule_alone_leads_on.Goals as goal

pub returns-clause-leads : goal.returns-clause-leads
returns-clause-leads c = leads_on

pub returns-clause-turn : goal.returns-clause-turn
returns-clause-turn c = has_turn_alone
