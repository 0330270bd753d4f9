use Rattle.std.specs.Prelude.{⊤}
use Rattle.kp_case_laws.proofs.PartLemmas.{divides_further, drops_where, undivided}
use Rattle.kp_case_laws.proofs.cases.parts_are_divided_further.Goals as goal

pub returns-clause-further : goal.returns-clause-further
returns-clause-further c = divides_further

pub returns-clause-empty : goal.returns-clause-empty
returns-clause-empty c = λ g. drops_where g (λ c. ⊤)

pub returns-clause-itself : goal.returns-clause-itself
returns-clause-itself c = undivided
