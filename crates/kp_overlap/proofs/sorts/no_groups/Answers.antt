use Rattle.std.proofs.Common.{sym, ap, subst, length}
use Rattle.kp_overlap.proofs.SortLemmas.{AreEmpty, empty_more}
use Rattle.kp_overlap.proofs.sorts.no_groups.Goals as goal

pub loop-label-preserved : goal.loop-label-preserved
loop-label-preserved c = subst AreEmpty (sym c.in_ok-push.ensures.items) (empty_more c.loop-label.groups.items c.new.result (ap length c.new.ensures.items) c.loop-label.invariant)
