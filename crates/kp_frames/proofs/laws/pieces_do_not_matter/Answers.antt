use Rattle.std.proofs.Common.{sym, subst}
use Rattle.kp_frames.specs.Frames.{Cuts}
use Rattle.kp_frames.proofs.OneWay.{one_cut}
use Rattle.kp_frames.proofs.laws.pieces_do_not_matter.Goals as goal

pub returns : goal.returns
returns x c d bytes fs gs e p q = one_cut c.limit bytes fs gs c.rest d.rest c.is_full d.is_full p (subst (λ l. Cuts l bytes gs d.rest d.is_full) (sym e) q)
