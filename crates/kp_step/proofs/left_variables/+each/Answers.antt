use Rattle.kp_case_laws.specs.Courses.{form_variables}
use Rattle.kp_rules.specs.Skeletons.{skeleton_view}
use Rattle.kp_step.proofs.OneSortLemmas.{one_more, one_fails}
use Rattle.kp_step.proofs.left_variables.+each.Goals as goal

pub are_one-returns-then-not-is_one : goal.are_one-returns-then-not-is_one
are_one-returns-then-not-is_one t c =
    one_fails (form_variables (skeleton_view c.args.whole.now)) c.args.skeletons.now c.loop-skeleton.skeleton-index c.skeleton-item.result c.loop-skeleton-test.true c.skeleton-item.is c.is_one.result c.if-not-is_one.true c.is_one.ensures c.loop-skeleton.invariant

pub are_one-loop-skeleton-preserved : goal.are_one-loop-skeleton-preserved
are_one-loop-skeleton-preserved t c =
    one_more (form_variables (skeleton_view c.args.whole.now)) c.args.skeletons.now c.loop-skeleton.skeleton-index c.skeleton-item.result c.loop-skeleton-test.true c.skeleton-item.is c.is_one.result c.if-not-is_one.false c.is_one.ensures c.loop-skeleton.invariant
