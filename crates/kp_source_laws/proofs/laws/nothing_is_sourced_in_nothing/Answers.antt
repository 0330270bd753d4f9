use Rattle.kp_source_laws.proofs.Nothing.{nothing_sourced, none_beside}
use Rattle.kp_source_laws.proofs.laws.nothing_is_sourced_in_nothing.Goals as goal

pub returns-clause-nothing : goal.returns-clause-nothing
returns-clause-nothing c = nothing_sourced

pub returns-clause-beside : goal.returns-clause-beside
returns-clause-beside c = none_beside
