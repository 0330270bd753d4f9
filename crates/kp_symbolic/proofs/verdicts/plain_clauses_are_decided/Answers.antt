use Rattle.kp_symbolic.proofs.Exact.{plain_is_decided}
use Rattle.kp_symbolic.proofs.verdicts.plain_clauses_are_decided.Goals as goal

pub returns : goal.returns
returns c = plain_is_decided
