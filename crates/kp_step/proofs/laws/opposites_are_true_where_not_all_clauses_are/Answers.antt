use Rattle.kp_step.proofs.Excluded.{opposite_sorted, opposite_right, opposite_says}
use Rattle.kp_step.proofs.laws.opposites_are_true_where_not_all_clauses_are.Goals as goal

pub returns-clause-sorted : goal.returns-clause-sorted
returns-clause-sorted c = opposite_sorted

pub returns-clause-truth : goal.returns-clause-truth
returns-clause-truth c = opposite_says

pub returns-clause-right : goal.returns-clause-right
returns-clause-right c = opposite_right
