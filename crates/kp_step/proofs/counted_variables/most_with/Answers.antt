use Rattle.kp_symbolic.specs.View.{state_view}
use Rattle.kp_rules.specs.Skeletons.{skeleton_view}
use Rattle.kp_step.proofs.CountLemmas.{turns_and_left}
use Rattle.kp_step.proofs.counted_variables.most_with.Goals as goal

pub returns : goal.returns
returns c t r found steps form z =
    turns_and_left t (state_view c.args.state.now) r (skeleton_view c.args.left.now) found c.in_ok-own.own c.in_ok-places.places c.most_from.result steps.signature c.in_ok-own.ensures form (c.in_ok-places.ensures t found steps z) c.most_from.ensures
