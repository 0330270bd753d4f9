use Rattle.kp_kore.proofs.laws.connectives_of_none_and_of_one.Goals as goal
use Rattle.kp_kore.proofs.TruthLemmas.{one_disjoined}

pub returns-clause-one_disjoined : goal.returns-clause-one_disjoined
returns-clause-one_disjoined c = one_disjoined
