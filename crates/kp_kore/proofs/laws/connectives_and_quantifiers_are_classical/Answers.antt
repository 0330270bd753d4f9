use Rattle.kp_kore.proofs.laws.connectives_and_quantifiers_are_classical.Goals as goal
use Rattle.kp_kore.proofs.TruthLemmas.{not_both, implied_either, twice_denied, not_all}

pub returns-clause-not_both : goal.returns-clause-not_both
returns-clause-not_both c = not_both

pub returns-clause-implied : goal.returns-clause-implied
returns-clause-implied c = implied_either

pub returns-clause-twice : goal.returns-clause-twice
returns-clause-twice c = twice_denied

pub returns-clause-not_all : goal.returns-clause-not_all
returns-clause-not_all c = not_all
