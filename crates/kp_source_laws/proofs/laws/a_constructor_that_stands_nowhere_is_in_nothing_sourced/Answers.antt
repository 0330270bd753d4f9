use Rattle.kp_source_laws.proofs.AvoidSourced.{nowhere_none}
use Rattle.kp_source_laws.proofs.laws.a_constructor_that_stands_nowhere_is_in_nothing_sourced.Goals as goal

pub returns : goal.returns
returns c = nowhere_none
