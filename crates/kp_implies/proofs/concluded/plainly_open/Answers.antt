use Rattle.std.proofs.Common.{rules, ◌≡◌, None}
use Rattle.kp_symbolic.specs.View.{state_view}
use Rattle.kp_unify.specs.Views.{signature_of}
use Rattle.kp_goals.specs.View.{consequent_view}
use Rattle.kp_implies.proofs.ConcludedLemmas.{apart_concluded, goal_concluded, plainly, all_concluded}
use Rattle.kp_implies.proofs.concluded.plainly_open.Goals as goal

pub returns-in-Some-clause-answered : goal.returns-in-Some-clause-answered
returns-in-Some-clause-answered c =
    let g = signature_of c.args.setting.now in
    let s = state_view c.args.state.now in
    let k = consequent_view c.args.consequent.now in
    let part = state_view c.args.part.now in
    apart_concluded g s k part c.args.apart c.in-Some.open c.args.goal c.heavy_shown.result c.in-Some.is c.heavy_shown.ensures.answered

pub returns-in-Some-goal-clause-answered : goal.returns-in-Some-goal-clause-answered
returns-in-Some-goal-clause-answered c =
    let g = signature_of c.args.setting.now in
    let s = state_view c.args.state.now in
    let k = consequent_view c.args.consequent.now in
    let part = state_view c.args.part.now in
    let none : c.args.apart ≡ None = search rules in
    goal_concluded g s k part c.args.apart c.args.goal c.in-Some-goal.open c.open_goal.result none c.in-Some-goal.is c.open_goal.ensures.answered

pub returns-in-None-clause-answered : goal.returns-in-None-clause-answered
returns-in-None-clause-answered c =
    let g = signature_of c.args.setting.now in
    let s = state_view c.args.state.now in
    let k = consequent_view c.args.consequent.now in
    let part = state_view c.args.part.now in
    let none : c.args.apart ≡ None = search rules in
    plainly g s k part c.args.apart c.args.goal c.valid.result (all_concluded g s k part c.args.apart c.args.goal c.valid.result none c.in-None.is c.valid.ensures.answered)
