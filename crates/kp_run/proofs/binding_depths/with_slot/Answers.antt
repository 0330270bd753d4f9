use Rattle.std.proofs.Common.{◌<◌, ◌≤◌, sym, subst, length, arith}
use Rattle.kp_ground.specs.Slots.{with_name}
use Rattle.kp_run.specs.View.{AreDepthsUnder}
use Rattle.kp_run.proofs.Slotted.{stays_bound, one_more_bound}
use Rattle.kp_run.proofs.binding_depths.with_slot.Goals as goal

pub returns-then-slot-len : goal.returns-then-slot-len
returns-then-slot-len c = λ g v xs x under stands is.
    let below : c.args.slot < length c.args.bound.items = omega arith in
    stays_bound g v xs x c.args.slot c.args.bound.items below under stands

pub returns : goal.returns
returns c = λ g v xs x under stands is.
    let past : length c.args.bound.items ≤ c.args.slot = omega arith in
    subst (AreDepthsUnder g v (with_name xs x)) (sym c.in_ok-push.ensures.items)
    (one_more_bound g v xs x c.args.slot c.args.bound.items c.args.depths.now c.in_ok-share.field-0 past under stands is c.in_ok-share.ensures)
