use Rattle.kp_symbolic.proofs.Exact.{plain_can}
use Rattle.kp_symbolic.proofs.verdicts.plain_clauses_are_among_the_clauses.Goals as goal

pub returns : goal.returns
returns c = plain_can
