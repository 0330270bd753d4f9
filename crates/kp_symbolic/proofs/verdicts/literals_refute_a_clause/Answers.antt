use Rattle.kp_symbolic.specs.States.{IsLiteralTrue}
use Rattle.kp_symbolic.proofs.Exact.{each_false, by_each}
use Rattle.kp_symbolic.proofs.verdicts.literals_refute_a_clause.Goals as goal

pub returns-clause-false_literals : goal.returns-clause-false_literals
returns-clause-false_literals c = λ g v k. (each_false (IsLiteralTrue g v) k, (λ f t. t f))

pub returns-clause-by_cases : goal.returns-clause-by_cases
returns-clause-by_cases c = λ g v k. by_each (IsLiteralTrue g v) k
