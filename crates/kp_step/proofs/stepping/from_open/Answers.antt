use Rattle.kp_symbolic.specs.View.{state_view}
use Rattle.kp_unify.specs.Views.{signature_of}
use Rattle.kp_step.proofs.EndLemmas.{passes_number}
use Rattle.kp_step.proofs.LimitLemmas.{none_wide}
use Rattle.kp_step.proofs.stepping.from_open.Goals as goal

pub returns-in-Some : goal.returns-in-Some
returns-in-Some c t used same told shows =
    passes_number t (state_view c.args.state.now) (signature_of c.args.setting) c.in_ok-limit.field-0 c.in-Some.limit same c.in-Some.is c.in_ok-limit.ensures

pub returns-in-None : goal.returns-in-None
returns-in-None c t used same told shows = c.open_alone.ensures (none_wide (signature_of c.args.setting) (state_view c.args.state.now) c.in_ok-limit.field-0 c.in-None.is c.in_ok-limit.ensures) t used same told shows
