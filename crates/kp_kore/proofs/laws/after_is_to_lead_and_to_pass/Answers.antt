use Rattle.kp_kore.proofs.AfterLemmas.{leads_of_after, passes_of_after, after_of_both}
use Rattle.kp_kore.proofs.laws.after_is_to_lead_and_to_pass.Goals as goal

pub returns-clause-leads : goal.returns-clause-leads
returns-clause-leads c = leads_of_after

pub returns-clause-passes : goal.returns-clause-passes
returns-clause-passes c = passes_of_after

pub returns-clause-both : goal.returns-clause-both
returns-clause-both c = after_of_both
