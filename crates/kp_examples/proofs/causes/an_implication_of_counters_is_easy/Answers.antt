use Rattle.std.proofs.Common.{refl}
use Rattle.kp_symbolic.proofs.Digits.{one_digit}
use Rattle.kp_examples.proofs.CounterCauses.{less_is_easy}
use Rattle.kp_examples.proofs.causes.an_implication_of_counters_is_easy.Goals as goal

pub returns-clause-easy : goal.returns-clause-easy
returns-clause-easy c = less_is_easy

pub returns-clause-written : goal.returns-clause-written
returns-clause-written c = rw one_digit refl
