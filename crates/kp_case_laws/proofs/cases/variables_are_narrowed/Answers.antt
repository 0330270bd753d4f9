use Rattle.kp_case_laws.proofs.HeadPartLemmas.{heads_narrow}
use Rattle.kp_case_laws.proofs.NarrowingLemmas.{constructor_narrows, sort_narrows, question_narrows}
use Rattle.kp_case_laws.proofs.cases.variables_are_narrowed.Goals as goal

pub returns-clause-constructor : goal.returns-clause-constructor
returns-clause-constructor c = constructor_narrows

pub returns-clause-sort : goal.returns-clause-sort
returns-clause-sort c = sort_narrows

pub returns-clause-head : goal.returns-clause-head
returns-clause-head c = question_narrows

pub returns-clause-heads : goal.returns-clause-heads
returns-clause-heads c = heads_narrow
