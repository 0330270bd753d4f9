use Rattle.kp_symbolic.specs.View.{state_view}
use Rattle.kp_unify.specs.Views.{signature_of}
use Rattle.kp_step.proofs.CountLemmas.{none_counted}
use Rattle.kp_step.proofs.counted_variables.most_alone.Goals as goal

pub returns : goal.returns
returns c = none_counted (signature_of c.args.setting) (state_view c.args.state.now) c.most_from.result c.most_from.ensures
