use Rattle.std.proofs.Common.{subst}
use Rattle.kp_symbolic.specs.View.{clauses_view, state_view}
use Rattle.kp_unify.specs.Views.{signature_of}
use Rattle.kp_goals.specs.View.{consequent_view}
use Rattle.kp_implies.specs.Promises.{TellsOwn}
use Rattle.kp_implies.specs.Steps.{TellsGoals}
use Rattle.kp_implies.proofs.ImplyingLemmas.{own_here, goal_here, concluded_here}
use Rattle.kp_implies.proofs.implying.by_these.Goals as goal

pub returns-in-Instance-clause-answered : goal.returns-in-Instance-clause-answered
returns-in-Instance-clause-answered c used m is safe own parts asked right =
    let g = signature_of c.args.setting.now in
    let s = state_view c.args.state.now in
    let k = consequent_view c.args.consequent.now in
    let goals = clauses_view c.args.goals.now in
    goal_here g used s k m goals asked (subst (TellsGoals g k m.met.part goals) c.in-Instance.is (c.in_ok-search_goals.ensures m.met.part is safe right))

pub returns-in-Some-clause-answered : goal.returns-in-Some-clause-answered
returns-in-Some-clause-answered c used m is safe own parts asked right =
    let g = signature_of c.args.setting.now in
    let s = state_view c.args.state.now in
    let k = consequent_view c.args.consequent.now in
    own_here g used s k c.in-Some.own c.own_shown.result c.own_shown.ensures.answered (subst (TellsOwn g s) c.in-Some.is own)

pub returns-in-None-clause-answered : goal.returns-in-None-clause-answered
returns-in-None-clause-answered c used m is safe own parts asked right =
    let g = signature_of c.args.setting.now in
    let s = state_view c.args.state.now in
    let k = consequent_view c.args.consequent.now in
    let p = state_view c.args.part.now in
    let goals = clauses_view c.args.goals.now in
    concluded_here g used s k m p goals c.args.apart c.in-Rest.«open» c.concluded.result is safe (subst (TellsOwn g s) c.in-None.is own) asked parts
    (subst (TellsGoals g k m.met.part goals) c.in-Rest.is (c.in_ok-search_goals.ensures m.met.part is safe right)) c.concluded.ensures.answered
