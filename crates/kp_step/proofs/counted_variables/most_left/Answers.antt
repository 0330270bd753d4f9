use Rattle.kp_symbolic.specs.View.{state_view}
use Rattle.kp_step.proofs.CountLemmas.{turns_are_most}
use Rattle.kp_step.proofs.counted_variables.most_left.Goals as goal

pub returns : goal.returns
returns c t found steps z =
    turns_are_most t (state_view c.args.state.now) found c.in_ok-places.places c.most_from.result steps.signature (c.in_ok-places.ensures t found steps z) c.most_from.ensures
