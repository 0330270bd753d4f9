use Rattle.std.proofs.Common.{refl}
use Rattle.kp_symbolic.proofs.Digits.{one_digit}
use Rattle.kp_examples.proofs.clauses.heads_are_opened.Goals as goal

pub returns-clause-written : goal.returns-clause-written
returns-clause-written c = rw one_digit refl
