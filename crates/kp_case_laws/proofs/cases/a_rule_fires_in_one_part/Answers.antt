use Rattle.kp_kore.specs.Steps.{Fires}
use Rattle.kp_case_laws.proofs.Excluding.{holding_part, other_parts, none_holds}
use Rattle.kp_case_laws.proofs.cases.a_rule_fires_in_one_part.Goals as goal

pub returns-clause-fires : goal.returns-clause-fires
returns-clause-fires c = λ g body. holding_part g (Fires g body)

pub returns-clause-others : goal.returns-clause-others
returns-clause-others c = λ g body. other_parts g (Fires g body)

pub returns-clause-silent : goal.returns-clause-silent
returns-clause-silent c = λ g body. none_holds g (Fires g body)
