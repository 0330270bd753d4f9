use Rattle.kp_case_laws.proofs.GrownLemmas.{grown_itself, grown_further}
use Rattle.kp_case_laws.proofs.cases.variables_only_grow.Goals as goal

pub returns-clause-none : goal.returns-clause-none
returns-clause-none c = grown_itself

pub returns-clause-more : goal.returns-clause-more
returns-clause-more c = grown_further
