use Rattle.kp_round_laws.proofs.ServedChains.{own_told}
use Rattle.kp_round_laws.proofs.laws.own_entries_are_told.Goals as goal

pub returns : goal.returns
returns c = own_told
