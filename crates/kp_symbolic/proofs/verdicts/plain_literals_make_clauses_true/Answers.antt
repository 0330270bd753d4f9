use Rattle.kp_symbolic.proofs.Exact.{by_plain_can}
use Rattle.kp_symbolic.proofs.verdicts.plain_literals_make_clauses_true.Goals as goal

pub returns : goal.returns
returns c = by_plain_can
