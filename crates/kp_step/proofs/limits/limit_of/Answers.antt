use Rattle.kp_symbolic.specs.View.{state_view}
use Rattle.kp_unify.specs.Views.{signature_of}
use Rattle.kp_step.proofs.LimitLemmas.{passes_wide, none_wide, depth_told}
use Rattle.kp_step.proofs.limits.limit_of.Goals as goal

pub returns-in-Some : goal.returns-in-Some
returns-in-Some c = passes_wide (signature_of c.args.setting) (state_view c.args.state.now) c.in_ok-limit.field-0 c.in-Some.limit c.in-Some.is c.in_ok-limit.ensures

pub returns-in-None : goal.returns-in-None
returns-in-None c =
    let g = signature_of c.args.setting in
    let s = state_view c.args.state.now in
    depth_told g s c.deep.result (none_wide g s c.in_ok-limit.field-0 c.in-None.is c.in_ok-limit.ensures) c.deep.ensures
