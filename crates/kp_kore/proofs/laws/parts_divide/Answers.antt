use Rattle.kp_kore.proofs.Dividing.{exclusion_divides, empty_parts_fall_away}
use Rattle.kp_kore.proofs.laws.parts_divide.Goals as goal

pub returns-clause-excluded : goal.returns-clause-excluded
returns-clause-excluded c = exclusion_divides

pub returns-clause-empty : goal.returns-clause-empty
returns-clause-empty c = empty_parts_fall_away
