use Rattle.std.proofs.Common.{rules, ◌≡◌, refl, [], None}
use Rattle.kp_symbolic.specs.Plain.{rough_clauses}
use Rattle.kp_symbolic.specs.View.{clauses_view, state_view}
use Rattle.kp_unify.specs.Views.{signature_of}
use Rattle.kp_step.proofs.AnswerLemmas.{some_clauses, shown_by_state}
use Rattle.kp_step.proofs.part_answers.shown_of.Goals as goal

pub returns : goal.returns
returns c p r =
    let g = signature_of c.args.setting in
    let s = state_view c.args.state.now in
    let some : ¬ (c.args.told.over ≡ None) = search rules in
    let rough : clauses_view c.in_ok-shown.shown.items ≡ rough_clauses g s = search rules in
    let kept : ¬ (c.in_ok-shown.shown.items ≡ []) = search rules in
    shown_by_state g s p c.args.told (record { shown = c.in_ok-shown.shown; over = None }) some refl rough (some_clauses c.in_ok-shown.shown.items kept) r
