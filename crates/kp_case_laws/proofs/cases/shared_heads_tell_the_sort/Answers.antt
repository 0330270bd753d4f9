use Rattle.kp_case_laws.proofs.RowLemmas.{inside_sorts, outside_sorts}
use Rattle.kp_case_laws.proofs.cases.shared_heads_tell_the_sort.Goals as goal

pub returns-clause-inside : goal.returns-clause-inside
returns-clause-inside c = inside_sorts

pub returns-clause-outside : goal.returns-clause-outside
returns-clause-outside c = outside_sorts
