use Rattle.std.proofs.Common.{◌≡◌, map, drop}
use Rattle.kp_symbolic.specs.Languages.{language_view}
use Rattle.kp_symbolic.specs.View.{variables_view, clauses_view, replaced_view}
use Rattle.kp_goals.specs.View.{first_given}
use Rattle.kp_goals.proofs.goals.first_new.Given as goal

abbrev pub invariant-loop-goal : goal.invariant-loop-goal
invariant-loop-goal l =
    first_given (language_view l.language) (variables_view l.bound) (variables_view l.told) (map replaced_view l.put) (clauses_view (drop l.goal-index l.goals)) ≡ first_given (language_view l.language) (variables_view l.bound) (variables_view l.told) (map replaced_view l.put) (clauses_view l.goals)
