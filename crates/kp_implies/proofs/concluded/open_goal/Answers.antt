use Rattle.std.proofs.Common.{Some}
use Rattle.kp_symbolic.specs.View.{state_view}
use Rattle.kp_unify.specs.Views.{signature_of}
use Rattle.kp_goals.specs.View.{consequent_view}
use Rattle.kp_implies.proofs.ConcludedLemmas.{nothing_carried}
use Rattle.kp_implies.proofs.concluded.open_goal.Goals as goal

pub returns-in-Nothing-clause-answered : goal.returns-in-Nothing-clause-answered
returns-in-Nothing-clause-answered c =
    let g = signature_of c.args.setting.now in
    let s = state_view c.args.state.now in
    let k = consequent_view c.args.consequent.now in
    let part = state_view c.args.part.now in
    nothing_carried g s k part c.in_ok-found_of.field-0 (Some c.args.goal) c.valid.result c.in_ok-found_of.ensures c.in-Nothing.is c.valid.ensures.answered
