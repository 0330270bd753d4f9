use Rattle.std.proofs.Common.{refl, arith, below_more, length, ◌≤◌}
use Rattle.kp_overlap.proofs.HolderLemmas.{each_of_all}
use Rattle.kp_overlap.proofs.label_holders.all_have_one_label.Goals as goal

pub loop-i-preserved : goal.loop-i-preserved
loop-i-preserved c = below_more _ _ c.loop-i.invariant (c.if-not-have_one_label.ensures.0 refl)

pub returns : goal.returns
returns c =
    let past : length c.args.members.now ≤ c.loop-i.i = omega arith in
    λ t. each_of_all c.args.labels.now c.args.members.now c.args.others.now c.if-members-others.false (λ k lt. c.loop-i.invariant k (omega arith))
