use Rattle.std.proofs.Common.{refl}
use Rattle.kp_symbolic.specs.Solving.{finished, goes_on}
use Rattle.kp_examples.proofs.states.a_number_is_put_in.Goals as goal

pub returns-clause-read : goal.returns-clause-read
returns-clause-read c = record { opened = _; is_opened = refl; solving = goes_on _ _ _ refl (finished _ refl) }
