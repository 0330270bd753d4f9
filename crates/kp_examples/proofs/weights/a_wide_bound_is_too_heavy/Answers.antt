use Rattle.std.proofs.Common.{refl}
use Rattle.std.proofs.lemmas.Bool.{ltb-true}
use Rattle.kp_symbolic.proofs.BitLengths.{has_digits}
use Rattle.kp_examples.proofs.weights.a_wide_bound_is_too_heavy.Goals as goal

pub returns-clause-over : goal.returns-clause-over
returns-clause-over c = record { weighs = (127, has_digits _ 126 refl refl, refl); above = ltb-true 126 128 refl }
