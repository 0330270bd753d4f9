use Rattle.kp_symbolic.specs.Languages.{language_view}
use Rattle.kp_symbolic.specs.View.{variables_view, state_view}
use Rattle.kp_goals.specs.View.{consequent_view, given_view, IsGivenIn}
use Rattle.kp_goals.proofs.goals.asked_in.Given as goal

abbrev pub invariant-loop-variable : goal.invariant-loop-variable
invariant-loop-variable l = IsGivenIn (language_view l.language) (consequent_view l.consequent) (variables_view l.told) (state_view l.state) (given_view l.given)
