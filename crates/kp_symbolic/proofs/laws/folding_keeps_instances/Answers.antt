use Rattle.kp_symbolic.proofs.Folded.{folded_is}
use Rattle.kp_symbolic.proofs.laws.folding_keeps_instances.Goals as goal

pub returns : goal.returns
returns c = folded_is
