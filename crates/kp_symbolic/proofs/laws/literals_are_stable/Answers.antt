use Rattle.kp_symbolic.proofs.Stable.{stable_literal}
use Rattle.kp_symbolic.proofs.laws.literals_are_stable.Goals as goal

pub returns : goal.returns
returns c = stable_literal
