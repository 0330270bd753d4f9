use Rattle.std.proofs.Common.{rules, ◌≡◌, None}
use Rattle.kp_kore.specs.View.{sort_view}
use Rattle.kp_symbolic.specs.View.{clauses_view, state_view}
use Rattle.kp_unify.specs.Views.{signature_of}
use Rattle.kp_goals.specs.View.{consequent_view}
use Rattle.kp_implies.specs.Steps.{IsSometimes}
use Rattle.kp_implies.proofs.ConcludedLemmas.{goal_told, goal_weighed}
use Rattle.kp_implies.proofs.concluded.goal_shown.Goals as goal

pub returns-then-is_some-clause-answered : goal.returns-then-is_some-clause-answered
returns-then-is_some-clause-answered c =
    let g = signature_of c.args.setting.now in
    let s = state_view c.args.state.now in
    let k = consequent_view c.args.consequent.now in
    goal_weighed g s k (IsSometimes g) c.args.goal c.heavy_shown.result c.heavy_shown.ensures.answered c.heavy_shown.ensures.weighed

pub returns-clause-answered : goal.returns-clause-answered
returns-clause-answered c =
    let g = signature_of c.args.setting.now in
    let s = state_view c.args.state.now in
    let k = consequent_view c.args.consequent.now in
    let sort : sort_view c.deref.result.now ≡ sort_view c.args.state.now.sort.value = search rules in
    let shown : clauses_view c.deref-2.result.now ≡ clauses_view c.args.goal.shown.items = search rules in
    let none : c.args.goal.over ≡ None = search rules in
    goal_told g s k c.args.goal (sort_view c.deref.result.now) (clauses_view c.deref-2.result.now) c.shown_open.result sort shown none c.shown_open.ensures.shown
