use Rattle.kp_symbolic.specs.Opening.{opened_same}
use Rattle.kp_symbolic.proofs.Facts.{Good, clauses_have, opened_same_good}
use Rattle.kp_symbolic.proofs.laws.opened_equalities_are_well_sorted.Goals as goal

pub returns : goal.returns
returns c = λ g hand alone b s t u w z i j. clauses_have (Good g hand) (opened_same g alone b s t u) (opened_same_good g hand alone b s t u (w, i) (z, j))
