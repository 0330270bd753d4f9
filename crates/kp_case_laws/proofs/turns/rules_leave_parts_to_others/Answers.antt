use Rattle.kp_kore.specs.Steps.{Fires}
use Rattle.kp_case_laws.specs.Turns.{RemainsTo}
use Rattle.kp_case_laws.proofs.PartsWhere.{sets_out, goes_on, drops_parts}
use Rattle.kp_case_laws.proofs.TurnsFound.{left_to_none, left_to_rule, less_is_left, as_much_is_left}
use Rattle.kp_case_laws.proofs.turns.rules_leave_parts_to_others.Goals as goal

pub returns-clause-none : goal.returns-clause-none
returns-clause-none c = left_to_none

pub returns-clause-some : goal.returns-clause-some
returns-clause-some c = left_to_rule

pub returns-clause-sets_out : goal.returns-clause-sets_out
returns-clause-sets_out c = λ g o turns q p parts. sets_out g (RemainsTo g o turns) (λ k. ¬ Fires g q.body k) p parts

pub returns-clause-goes_on : goal.returns-clause-goes_on
returns-clause-goes_on c = λ g o turns q p r done waiting parts. goes_on g (RemainsTo g o turns) (λ k. ¬ Fires g q.body k) p r done waiting parts

pub returns-clause-arrives : goal.returns-clause-arrives
returns-clause-arrives c = less_is_left

pub returns-clause-passed : goal.returns-clause-passed
returns-clause-passed c = as_much_is_left

pub returns-clause-empty : goal.returns-clause-empty
returns-clause-empty c = λ g o turns p q before after. drops_parts g (RemainsTo g o turns) p q before after

pub returns-clause-empty_without : goal.returns-clause-empty_without
returns-clause-empty_without c = λ g q p r before after. drops_parts g (λ k. ¬ Fires g q.body k) p r before after
