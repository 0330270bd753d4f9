use Rattle.std.proofs.Common.{subst}
use Rattle.kp_symbolic.specs.View.{state_view}
use Rattle.kp_unify.specs.Views.{signature_of}
use Rattle.kp_goals.specs.View.{consequent_view}
use Rattle.kp_implies.specs.Steps.{TellsState}
use Rattle.kp_implies.proofs.ImplyingLemmas.{vacuous_here, state_sorted}
use Rattle.kp_implies.proofs.implying.compared.Goals as goal

pub returns-in-Nothing-clause-answered : goal.returns-in-Nothing-clause-answered
returns-in-Nothing-clause-answered c used a c' setting question =
    let g = signature_of c.args.setting.now in
    let s = state_view c.args.state.now in
    let k = consequent_view c.args.consequent.now in
    vacuous_here g used s k (subst (TellsState g s) c.in-Nothing.is (c.in_ok-found_of.ensures (state_sorted g used a c' s k question)))

pub returns-in-Instance-clause-answered : goal.returns-in-Instance-clause-answered
returns-in-Instance-clause-answered c used a c' setting question =
    let g = signature_of c.args.setting.now in
    let s = state_view c.args.state.now in
    let k = consequent_view c.args.consequent.now in
    c.by_number.ensures.answered used a c' setting question (subst (TellsState g s) c.in-Instance.is (c.in_ok-found_of.ensures (state_sorted g used a c' s k question)))

pub returns-in-Undecided-clause-answered : goal.returns-in-Undecided-clause-answered
returns-in-Undecided-clause-answered c used a c' setting question =
    let g = signature_of c.args.setting.now in
    let s = state_view c.args.state.now in
    let k = consequent_view c.args.consequent.now in
    c.by_number-in-Undecided.ensures.answered used a c' setting question (subst (TellsState g s) c.in-Undecided.is (c.in_ok-found_of.ensures (state_sorted g used a c' s k question)))
