use Rattle.kp_symbolic.specs.View.{state_view}
use Rattle.kp_rules.specs.Skeletons.{skeleton_view}
use Rattle.kp_unify.specs.Views.{signature_of}
use Rattle.kp_step.proofs.CountLemmas.{one_left_counted}
use Rattle.kp_step.proofs.counted_variables.most_of_left.Goals as goal

pub returns : goal.returns
returns c = one_left_counted (signature_of c.args.setting) (state_view c.args.state.now) (skeleton_view c.args.left.now) c.in_ok-places.places c.most_from.result c.in_ok-places.ensures c.most_from.ensures
