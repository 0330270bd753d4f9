use Rattle.kp_case_laws.proofs.PartLemmas.{told_below, below_below}
use Rattle.kp_case_laws.proofs.cases.parts_of_parts_are_parts.Goals as goal

pub returns-clause-below : goal.returns-clause-below
returns-clause-below c = below_below

pub returns-clause-told : goal.returns-clause-told
returns-clause-told c = told_below
