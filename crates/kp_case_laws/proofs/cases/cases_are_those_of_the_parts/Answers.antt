use Rattle.kp_case_laws.specs.Cases.{left_side}
use Rattle.kp_case_laws.proofs.CaseLemmas.{cases_of_parts, met_alone, apart_alone}
use Rattle.kp_case_laws.proofs.cases.cases_are_those_of_the_parts.Goals as goal

pub returns-clause-parts : goal.returns-clause-parts
returns-clause-parts c = λ g left. cases_of_parts g (left_side g left)

pub returns-clause-met : goal.returns-clause-met
returns-clause-met c = λ g left. met_alone g (left_side g left)

pub returns-clause-apart : goal.returns-clause-apart
returns-clause-apart c = λ g left. apart_alone g (left_side g left)
