use Rattle.std.proofs.Common.{ap, inr}
use Rattle.std.specs.Option.{option_map}
use Rattle.kp_symbolic.specs.View.{state_view}
use Rattle.kp_unify.specs.Views.{signature_of}
use Rattle.kp_step.specs.Answers.{firing_model}
use Rattle.kp_step.specs.Views.{limit_view}
use Rattle.kp_step.proofs.TriedLemmas.{condition_passes, condition_silent}
use Rattle.kp_step.proofs.turns.wide_condition.Goals as goal

pub returns-then-branch : goal.returns-then-branch
returns-then-branch c t used s place e setting w at i same limits =
    let f = firing_model c.args.firing.now in
    condition_passes t used s place f (signature_of c.args.setting) (state_view c.args.narrowed.now) (limit_view c.in-Some.limit) c.in_ok-limit.field-0 e i ((c.in_ok-may_meet-in-Some.ensures t used s place e setting w at i).0 c.if-branch.true) limits same c.in_ok-limit.ensures (ap (option_map limit_view) c.in-Some.is)

pub returns-else-branch : goal.returns-else-branch
returns-else-branch c t used s place e setting w at i same limits = inr ((c.in_ok-may_meet-in-Some.ensures t used s place e setting w at i).1 c.if-branch.false)

pub returns-in-None : goal.returns-in-None
returns-in-None c t used s place e setting w at i same limits =
    condition_silent t (firing_model c.args.firing.now) (signature_of c.args.setting) (state_view c.args.narrowed.now) c.in_ok-limit.field-0 e same c.in_ok-limit.ensures c.in-None.is
