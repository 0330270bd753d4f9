use Rattle.kp_frames.proofs.OneWay.{one_cut}
use Rattle.kp_frames.proofs.laws.a_stream_is_cut_in_one_way.Goals as goal

pub returns : goal.returns
returns c = one_cut
