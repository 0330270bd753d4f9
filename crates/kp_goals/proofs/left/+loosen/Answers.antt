use Rattle.std.proofs.Common.{rules, ◌≤◌, length}
use Rattle.kp_goals.proofs.CodeLemmas.{loosened_made}
use Rattle.kp_goals.proofs.left.+loosen.Goals as goal

pub all_loosened-returns : goal.all_loosened-returns
all_loosened-returns t c =
    let past : length c.args.skeletons.now ≤ c.loop-skeleton.skeleton-index = search rules in
    loosened_made c.loop-skeleton.made.items c.args.skeletons.now c.loop-skeleton.skeleton-index past c.loop-skeleton.invariant
