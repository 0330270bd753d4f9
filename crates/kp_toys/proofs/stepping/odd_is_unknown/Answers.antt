use Rattle.kp_toys.proofs.Matching.{odd_unknown}
use Rattle.kp_toys.proofs.stepping.odd_is_unknown.Goals as goal

pub returns-clause-unknown : goal.returns-clause-unknown
returns-clause-unknown c = odd_unknown
