use Rattle.kp_kore.proofs.laws.what_is_not_refuted_is_true.Goals as goal
use Rattle.kp_kore.proofs.TruthLemmas.{stable_truth}

pub returns : goal.returns
returns c = stable_truth
