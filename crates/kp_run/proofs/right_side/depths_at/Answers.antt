use Rattle.std.proofs.Common.{◌∙◌, ◌<◌, length, arith}
use Rattle.std.proofs.lemmas.Result.{IfOk-weaker}
use Rattle.kp_signature.specs.View.{signature_view}
use Rattle.kp_ground.specs.View.{value_view}
use Rattle.kp_run.proofs.Slotted.{depths_of_slot}
use Rattle.kp_run.proofs.right_side.depths_at.Goals as goal

pub returns-then-slot-bound : goal.returns-then-slot-bound
returns-then-slot-bound c =
    let below : c.args.slot < length c.args.bound.now = omega arith in
    IfOk-weaker c.share.result _ _
    (λ d same v xs x under stands is. same ∙ depths_of_slot (signature_view c.args.signature.now) v xs x c.args.slot c.args.bound.now c.index-bound-slot.result (value_view c.args.value.now) below c.index-bound-slot.is under stands is)
    c.share.ensures
