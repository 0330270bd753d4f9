use Rattle.std.proofs.Common.{refl}
use Rattle.kp_symbolic.proofs.Digits.{one_digit, two_digit}
use Rattle.kp_examples.proofs.clauses.sums_are_folded.Goals as goal

pub returns-clause-written : goal.returns-clause-written
returns-clause-written c = rw two_digit refl

pub returns-clause-less : goal.returns-clause-less
returns-clause-less c = rw one_digit refl
