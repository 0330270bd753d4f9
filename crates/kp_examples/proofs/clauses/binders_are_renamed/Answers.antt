use Rattle.std.proofs.Common.{refl}
use Rattle.kp_symbolic.proofs.Digits.{one_digit}
use Rattle.kp_examples.proofs.clauses.binders_are_renamed.Goals as goal

pub returns : goal.returns
returns c = rw one_digit refl
