use Rattle.kp_frames.proofs.Total.{stays_cut}
use Rattle.kp_frames.proofs.laws.what_is_cut_stays_cut.Goals as goal

pub returns : goal.returns
returns c = stays_cut
