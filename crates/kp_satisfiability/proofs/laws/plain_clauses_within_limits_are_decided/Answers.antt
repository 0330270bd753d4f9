use Rattle.kp_satisfiability.proofs.Exactly.{right_decided}
use Rattle.kp_satisfiability.proofs.laws.plain_clauses_within_limits_are_decided.Goals as goal

pub returns : goal.returns
returns c = right_decided
