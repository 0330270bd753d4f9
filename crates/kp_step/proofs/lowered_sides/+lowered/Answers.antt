use Rattle.std.proofs.Common.{arith}
use Rattle.kp_signature.specs.View.{signature_view}
use Rattle.kp_rules.specs.Skeletons.{skeleton_view}
use Rattle.kp_case_laws.specs.Courses.{form_variables}
use Rattle.kp_step.proofs.LoweredLemmas.{made_ends}
use Rattle.kp_step.proofs.lowered_sides.+lowered.Goals as goal

pub all_lowered-returns : goal.all_lowered-returns
all_lowered-returns t c =
    made_ends (signature_view c.args.signature.now) (form_variables (skeleton_view c.args.whole.now)) c.args.skeletons.now c.loop-skeleton.skeleton-index c.loop-skeleton.made.items (omega arith) c.loop-skeleton.invariant
