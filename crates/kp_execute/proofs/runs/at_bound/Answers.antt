use Rattle.kp_symbolic.specs.View.{state_view}
use Rattle.kp_unify.specs.Views.{signature_of}
use Rattle.kp_execute.proofs.runs.at_bound.Goals as goal

pub returns : goal.returns
returns c sorted = c.ending_of.ensures (signature_of c.args.setting) (state_view c.args.state.now) (c.in_ok-answer.ensures sorted)
