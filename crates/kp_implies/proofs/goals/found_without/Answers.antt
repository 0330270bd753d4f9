use Rattle.kp_symbolic.specs.View.{clause_view, state_view}
use Rattle.kp_unify.specs.Views.{signature_of}
use Rattle.kp_goals.specs.View.{consequent_view}
use Rattle.kp_implies.proofs.FoundLemmas.{goal_when}
use Rattle.kp_implies.proofs.goals.found_without.Goals as goal

pub returns : goal.returns
returns c =
    goal_when (signature_of c.args.setting.now) (consequent_view c.args.consequent.now) (clause_view c.args.goal.now) (state_view c.in_ok-asked.asked) (state_view c.args.state.now) c.found_solved.result
    c.in_ok-asked.ensures.without c.in_ok-asked.ensures.denied c.found_solved.ensures
