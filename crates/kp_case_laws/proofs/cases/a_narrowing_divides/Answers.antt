use Rattle.kp_case_laws.proofs.NarrowingLemmas.{narrowing_divides, narrowing_is_whole}
use Rattle.kp_case_laws.proofs.cases.a_narrowing_divides.Goals as goal

pub returns-clause-two : goal.returns-clause-two
returns-clause-two c = narrowing_divides

pub returns-clause-one : goal.returns-clause-one
returns-clause-one c = narrowing_is_whole
