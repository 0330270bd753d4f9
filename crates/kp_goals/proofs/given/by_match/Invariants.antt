use Rattle.std.proofs.Common.{◌≡◌, drop}
use Rattle.kp_symbolic.specs.Languages.{language_view}
use Rattle.kp_symbolic.specs.View.{variables_view, clauses_view}
use Rattle.kp_goals.specs.View.{given_view, with_clauses, nothing_given}
use Rattle.kp_goals.proofs.given.by_match.Given as goal

abbrev pub invariant-loop-clause : goal.invariant-loop-clause
invariant-loop-clause l =
    with_clauses (language_view l.language) (variables_view l.bound) (variables_view l.told) (given_view l.given) (clauses_view (drop l.clause-index l.clauses)) ≡ with_clauses (language_view l.language) (variables_view l.bound) (variables_view l.told) nothing_given (clauses_view l.clauses)
