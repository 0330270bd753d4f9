use Rattle.kp_kore.specs.View.{sort_view, view}
use Rattle.kp_symbolic.specs.View.{state_view}
use Rattle.kp_goals.specs.View.{consequent_view}
use Rattle.kp_implies.proofs.SidesLaws.{sides_law}
use Rattle.kp_implies.proofs.implying.implies.Goals as goal

pub returns-clause-answered : goal.returns-clause-answered
returns-clause-answered c =
    sides_law c.args.setting.now (view c.args.antecedent.now) (view c.args.consequent.now) (sort_view c.args.sort) (state_view c.in_ok-read.read) (state_view c.in_ok-state.state) (consequent_view c.in_ok-consequent.consequent) c.compared.result
    c.in_ok-read.ensures.read c.in_ok-read.ensures.right c.in_ok-state.ensures c.in_ok-consequent.ensures.read c.compared.ensures.answered
