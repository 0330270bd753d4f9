use Rattle.std.proofs.Common.{refl}
use Rattle.kp_symbolic.specs.Solving.{finished}
use Rattle.kp_symbolic.proofs.Digits.{zero_digit}
use Rattle.kp_examples.proofs.states.counters_are_read.Goals as goal

pub returns-clause-remainder : goal.returns-clause-remainder
returns-clause-remainder c = record { opened = _; is_opened = refl; solving = finished _ refl }

pub returns-clause-remainder_written : goal.returns-clause-remainder_written
returns-clause-remainder_written c = rw zero_digit refl

pub returns-clause-never : goal.returns-clause-never
returns-clause-never c = record { opened = _; is_opened = refl; solving = finished _ refl }

pub returns-clause-later : goal.returns-clause-later
returns-clause-later c = record { opened = _; is_opened = refl; solving = finished _ refl }
