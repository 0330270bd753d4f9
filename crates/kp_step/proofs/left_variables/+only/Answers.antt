use Rattle.std.proofs.Common.{string_bytes}
use Rattle.kp_kore.specs.View.{sort_view}
use Rattle.kp_step.proofs.OneSortLemmas.{only_more, only_fails}
use Rattle.kp_step.proofs.left_variables.+only.Goals as goal

pub have_only-returns-then-not-has_only : goal.have_only-returns-then-not-has_only
have_only-returns-then-not-has_only t c =
    only_fails (string_bytes c.args.name.now.value) (sort_view c.args.sort.now) c.args.skeletons.now c.loop-skeleton.skeleton-index c.skeleton-item.result c.loop-skeleton-test.true c.skeleton-item.is c.has_only.result c.if-not-has_only.true c.has_only.ensures c.loop-skeleton.invariant

pub have_only-loop-skeleton-preserved : goal.have_only-loop-skeleton-preserved
have_only-loop-skeleton-preserved t c =
    only_more (string_bytes c.args.name.now.value) (sort_view c.args.sort.now) c.args.skeletons.now c.loop-skeleton.skeleton-index c.skeleton-item.result c.loop-skeleton-test.true c.skeleton-item.is c.has_only.result c.if-not-has_only.false c.has_only.ensures c.loop-skeleton.invariant
