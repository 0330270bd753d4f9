use Rattle.kp_symbolic.specs.View.{state_view}
use Rattle.kp_execute.proofs.onward.after_step.Goals as goal

pub returns : goal.returns
returns c t used from = c.in_ok-by_outcome.ensures t used (state_view c.args.state.now) from.steps.runs (c.in_ok-outcome.ensures t used from.steps from.setting from.ready)
