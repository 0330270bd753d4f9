use Rattle.kp_frames.proofs.Total.{is_cut}
use Rattle.kp_frames.proofs.laws.every_stream_is_cut.Goals as goal

pub returns : goal.returns
returns c limit bytes = let cut = is_cut limit bytes in (cut.frames, cut.rest, cut.is_full, cut.cuts)
