use Rattle.std.proofs.Common.{refl}
use Rattle.kp_symbolic.specs.Solving.{finished}
use Rattle.kp_symbolic.proofs.Digits.{two_digit}
use Rattle.kp_examples.proofs.states.states_are_simplified.Goals as goal

pub returns-clause-read : goal.returns-clause-read
returns-clause-read c = record { opened = _; is_opened = refl; solving = finished _ refl }

pub returns-clause-written : goal.returns-clause-written
returns-clause-written c = rw two_digit refl

pub returns-clause-done : goal.returns-clause-done
returns-clause-done c = record { opened = _; is_opened = refl; solving = finished _ refl }
