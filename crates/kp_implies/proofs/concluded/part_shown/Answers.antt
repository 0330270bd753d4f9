use Rattle.kp_symbolic.specs.View.{state_view}
use Rattle.kp_unify.specs.Views.{signature_of}
use Rattle.kp_goals.specs.View.{consequent_view}
use Rattle.kp_implies.specs.Steps.{IsLeft}
use Rattle.kp_implies.proofs.ConcludedLemmas.{goal_weighed, part_weighed}
use Rattle.kp_implies.proofs.concluded.part_shown.Goals as goal

pub returns-then-is_some-clause-answered : goal.returns-then-is_some-clause-answered
returns-then-is_some-clause-answered c =
    let g = signature_of c.args.setting.now in
    let s = state_view c.args.state.now in
    let k = consequent_view c.args.consequent.now in
    part_weighed g s k c.args.part c.args.goal c.heavy_shown.result c.heavy_shown.ensures.answered

pub returns-clause-answered : goal.returns-clause-answered
returns-clause-answered c =
    let g = signature_of c.args.setting.now in
    let s = state_view c.args.state.now in
    let k = consequent_view c.args.consequent.now in
    goal_weighed g s k (λ q. IsLeft g q c.args.part) c.args.goal c.heavy_shown-2.result c.heavy_shown-2.ensures.answered c.heavy_shown-2.ensures.weighed
