use Rattle.std.proofs.Common.{◌≡◌, subst, sym, arith, List, get_or}
use Rattle.kp_overlap.specs.Joined.{AreOne}
use Rattle.kp_overlap.specs.declared.labels.Pair.{Pair}
use Rattle.kp_overlap.proofs.LabelLemmas.{one_both, same_at}
use Rattle.kp_overlap.proofs.labels.add_pairs.Goals as goal

pub loop-i-preserved : goal.loop-i-preserved
loop-i-preserved c = λ a e h.
    let same : a (get_or c.args.members.now c.loop-i.i 0) ≡ a (get_or c.args.others.now c.loop-i.i 0) = same_at a c.args.members.now c.args.others.now c.loop-i.i e (omega arith) (omega arith) in
    subst (λ (ps : List Pair). AreOne a ps) (sym c.in_ok-push.ensures.items) (one_both a c.loop-i.waiting.items _ (c.loop-i.invariant a e h) (same, tt))
