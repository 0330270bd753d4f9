use Rattle.std.proofs.Common.{string_bytes}
use Rattle.kp_step.proofs.OneSortLemmas.{named_more}
use Rattle.kp_step.proofs.left_variables.+named.Goals as goal

pub have_variable-loop-skeleton-preserved : goal.have_variable-loop-skeleton-preserved
have_variable-loop-skeleton-preserved t c rest =
    named_more (string_bytes c.args.name.now.value) c.args.skeletons.now c.loop-skeleton.skeleton-index c.skeleton-item.result c.loop-skeleton-test.true c.skeleton-item.is c.loop-skeleton.invariant rest
