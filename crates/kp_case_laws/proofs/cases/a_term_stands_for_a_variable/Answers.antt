use Rattle.kp_case_laws.proofs.Refining.{law_restricts, law_sorts}
use Rattle.kp_case_laws.proofs.cases.a_term_stands_for_a_variable.Goals as goal

pub returns-clause-instances : goal.returns-clause-instances
returns-clause-instances c = law_restricts

pub returns-clause-sorts : goal.returns-clause-sorts
returns-clause-sorts c = law_sorts
