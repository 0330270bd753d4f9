use Rattle.std.proofs.Common.{◌≡◌, ◌∙◌, ap, subst}
use Rattle.kp_symbolic.specs.View.{clauses_view}
use Rattle.kp_rules.specs.Skeletons.{skeleton_view}
use Rattle.kp_case_laws.specs.Parts.{with_clauses}
use Rattle.kp_unify.specs.Views.{signature_of, part_view, numbered_view, met_view}
use Rattle.kp_step.specs.Answers.{IsMetAnswer}
use Rattle.kp_step.proofs.HeardLemmas.{answered_met, foreign_open}
use Rattle.kp_step.proofs.foreign.met_answer.Goals as goal

pub returns-in-Instance : goal.returns-in-Instance
returns-in-Instance c used s apart w met =
    let m = met_view c.args.met.now in
    let same : part_view c.in_ok-part.part ≡ with_clauses m.part m.equations = c.in_ok-part.ensures.view ∙ ap (λ cs. with_clauses m.part (clauses_view cs)) c.deref.ensures.value in
    let g = signature_of c.args.setting in
    let left = skeleton_view c.args.skeleton.now in
    let all = answered_met g used s left (numbered_view c.args.whole.now) m c.args.met.now.part.next apart (part_view c.in_ok-part.part) c.in_ok-answer_where_met.field-0 w met same c.in_ok-answer_where_met.ensures in
    (subst (IsMetAnswer g s (with_clauses m.part m.equations).state left) c.in-Instance.is all, tt)

pub returns-in-Nothing : goal.returns-in-Nothing
returns-in-Nothing c used s apart w met =
    let m = met_view c.args.met.now in
    let same : part_view c.in_ok-part.part ≡ with_clauses m.part m.equations = c.in_ok-part.ensures.view ∙ ap (λ cs. with_clauses m.part (clauses_view cs)) c.deref.ensures.value in
    let g = signature_of c.args.setting in
    let left = skeleton_view c.args.skeleton.now in
    let all = answered_met g used s left (numbered_view c.args.whole.now) m c.args.met.now.part.next apart (part_view c.in_ok-part.part) c.in_ok-answer_where_met.field-0 w met same c.in_ok-answer_where_met.ensures in
    (subst (IsMetAnswer g s (with_clauses m.part m.equations).state left) c.in-Nothing.is all, tt)

pub returns : goal.returns
returns c used s apart w met =
    let m = met_view c.args.met.now in
    let same : part_view c.in_ok-part.part ≡ with_clauses m.part m.equations = c.in_ok-part.ensures.view ∙ ap (λ cs. with_clauses m.part (clauses_view cs)) c.deref.ensures.value in
    let g = signature_of c.args.setting in
    let left = skeleton_view c.args.skeleton.now in
    let all = answered_met g used s left (numbered_view c.args.whole.now) m c.args.met.now.part.next apart (part_view c.in_ok-part.part) c.in_ok-answer_where_met.field-0 w met same c.in_ok-answer_where_met.ensures in
    foreign_open g used s left (numbered_view c.args.whole.now) (part_view c.in_ok-part.part) (with_clauses m.part m.equations) c.in-UndecidedClauses.told c.in_ok-told-in-UndecidedClauses.told c.in_ok-most-in-UndecidedClauses.most w same (subst (IsMetAnswer g s (with_clauses m.part m.equations).state left) c.in-UndecidedClauses.is all) c.in_ok-most-in-UndecidedClauses.ensures c.in_ok-told-in-UndecidedClauses.ensures.same c.in_ok-told-in-UndecidedClauses.ensures.counted
