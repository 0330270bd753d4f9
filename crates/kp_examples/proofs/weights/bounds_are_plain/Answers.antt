use Rattle.std.proofs.Common.{refl}
use Rattle.kp_symbolic.proofs.BitLengths.{has_digits}
use Rattle.kp_examples.proofs.weights.bounds_are_plain.Goals as goal

pub returns-clause-five : goal.returns-clause-five
returns-clause-five c = (3, has_digits _ 2 refl refl, refl)
