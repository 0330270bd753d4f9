use Rattle.std.proofs.Common.{rules, ◌≡◌, ◌∙◌, ap, sym, length, []}
use Rattle.kp_symbolic.specs.View.{clauses_view, state_view}
use Rattle.kp_unify.specs.Views.{signature_of}
use Rattle.kp_goals.specs.View.{consequent_view}
use Rattle.kp_symbolic.specs.Plain.{rough_clauses}
use Rattle.kp_step.proofs.LoopLemmas.{nothing_left}
use Rattle.kp_implies.proofs.ConcludedLemmas.{plain_concluded}
use Rattle.kp_implies.proofs.concluded.left_open.Goals as goal

pub returns-clause-answered : goal.returns-clause-answered
returns-clause-answered c =
    let g = signature_of c.args.setting.now in
    let s = state_view c.args.state.now in
    let k = consequent_view c.args.consequent.now in
    let part = state_view c.args.part.now in
    let empty : length c.in_ok-rough.rough.items ≡ 0 = search rules in
    let none : rough_clauses g s ≡ [] = sym c.in_ok-rough.ensures ∙ ap clauses_view (nothing_left c.in_ok-rough.rough.items empty) in
    plain_concluded g s k part c.args.apart c.args.goal c.plainly_open.result none c.plainly_open.ensures.answered
