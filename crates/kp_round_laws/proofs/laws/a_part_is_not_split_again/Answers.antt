use Rattle.kp_round_laws.proofs.DividedOnce.{parts_stay_whole}
use Rattle.kp_round_laws.proofs.laws.a_part_is_not_split_again.Goals as goal

pub returns : goal.returns
returns c = parts_stay_whole
