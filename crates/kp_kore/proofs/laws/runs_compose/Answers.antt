use Rattle.kp_kore.proofs.RunLemmas.{composed}
use Rattle.kp_kore.proofs.laws.runs_compose.Goals as goal

pub returns : goal.returns
returns c = composed
