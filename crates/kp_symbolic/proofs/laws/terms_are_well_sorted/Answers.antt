use Rattle.kp_symbolic.proofs.SortedFolding.{folded_sorted, replaced_sorted}
use Rattle.kp_symbolic.proofs.WellSorted.{term_sorted}
use Rattle.kp_symbolic.proofs.laws.terms_are_well_sorted.Goals as goal

pub returns-clause-folded : goal.returns-clause-folded
returns-clause-folded c = folded_sorted

pub returns-clause-replaced : goal.returns-clause-replaced
returns-clause-replaced c = replaced_sorted

pub returns-clause-instances : goal.returns-clause-instances
returns-clause-instances c = term_sorted
