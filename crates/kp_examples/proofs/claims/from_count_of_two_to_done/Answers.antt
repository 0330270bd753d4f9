use Rattle.std.proofs.Common.{refl}
use Rattle.kp_examples.proofs.claims.from_count_of_two_to_done.Goals as goal

pub returns-clause-read : goal.returns-clause-read
returns-clause-read c = record { label = refl; pattern = refl; sides = refl; circular = refl; depends = refl }

pub returns-clause-faultless : goal.returns-clause-faultless
returns-clause-faultless c = refl

pub returns-clause-circular : goal.returns-clause-circular
returns-clause-circular c = refl
