use Rattle.std.proofs.Common.{rules, ◌≡◌, false, true}
use Rattle.kp_symbolic.specs.View.{clause_view, state_view, variables_view}
use Rattle.kp_unify.specs.Views.{signature_of}
use Rattle.kp_goals.specs.Goals.{is_unbound}
use Rattle.kp_goals.specs.View.{consequent_view}
use Rattle.kp_implies.specs.Steps.{not_given}
use Rattle.kp_implies.proofs.FoundLemmas.{goal_free}
use Rattle.kp_implies.proofs.goals.asked_of.Goals as goal

pub returns : goal.returns
returns c =
    let free : is_unbound (variables_view c.args.consequent.now.bound.items) (clause_view c.args.goal.now) ≡ false = search rules in
    goal_free (signature_of c.args.setting.now) (consequent_view c.args.consequent.now) (clause_view c.args.goal.now) (state_view c.args.state.now) c.found_without.result free c.found_without.ensures

pub returns-then-branch : goal.returns-then-branch
returns-then-branch c =
    let bound : is_unbound (variables_view c.args.consequent.now.bound.items) (clause_view c.args.goal.now) ≡ true = search rules in
    λ p is safe right. not_given bound c.in_ok-open.ensures
