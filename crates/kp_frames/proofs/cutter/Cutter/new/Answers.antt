use Rattle.std.proofs.Common.{◌==◌, [], sym, subst, length}
use Rattle.kp_frames.specs.Frames.{Cuts}
use Rattle.kp_frames.proofs.Cutting.{nothing_cuts}
use Rattle.kp_frames.proofs.cutter.Cutter.new.Goals as goal

pub returns-clause-cut : goal.returns-clause-cut
returns-clause-cut c = subst (λ r. Cuts c.args.limit [] [] r (length r == c.args.limit)) (sym c.new.ensures.rest) (nothing_cuts c.args.limit)
