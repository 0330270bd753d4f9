use Rattle.kp_signature.specs.View.{signature_view}
use Rattle.kp_ground.specs.View.{value_view}
use Rattle.kp_run.proofs.Bound.{depths_follow}
use Rattle.kp_run.proofs.step.depths_after.Goals as goal

pub returns : goal.returns
returns c =
    depths_follow (signature_view c.args.signature.now) c.args.firing.now c.right_depths.result (value_view c.args.value.now) c.args.depths.now c.in_ok-bound.bound.items c.deref.result.now
    c.requires.plain c.deref.ensures.value c.in_ok-bound.ensures c.right_depths.ensures
