use Rattle.std.proofs.Common.{rules, ◌≡◌, subst, List}
use Rattle.std.proofs.lemmas.Result.{err_from_is_err_and}
use Rattle.kp_kore.specs.View.{sort_view, view}
use Rattle.kp_outward.specs.Arranged.{AreArranged}
use Rattle.kp_outward.specs.Errors.{InjectsIfThere}
use Rattle.kp_symbolic.specs.States.{Literal}
use Rattle.kp_symbolic.specs.Writing.{written_predicate}
use Rattle.kp_symbolic.specs.Languages.{language_view}
use Rattle.kp_symbolic.specs.View.{state_view, clauses_view}
use Rattle.kp_simplify.proofs.AnswerLemmas.{predicate_wants, shown_answered}
use Rattle.kp_simplify.proofs.state_answer.shown.Goals as goal

pub returns-in-Some-clause-answered : goal.returns-in-Some-clause-answered
returns-in-Some-clause-answered c = λ h right weighed none.
    let g = language_view c.args.language.now in
    let s = state_view c.args.state.now in
    let cs = clauses_view c.args.clauses.now in
    shown_answered g s cs (view c.in-Some.predicate.value) c.predicate_shown.result h (c.predicate_shown.ensures h weighed) right none (search rules)

pub returns-in_err-written-clause-wants : goal.returns-in_err-written-clause-wants
returns-in_err-written-clause-wants c =
    let g = language_view c.args.language.now in
    let s = state_view c.args.state.now in
    let cs = clauses_view c.args.clauses.now in
    let same : sort_view c.deref.result.now ≡ sort_view c.args.state.now.sort.value = search rules in
    let p = err_from_is_err_and c.from_residual.result c.from_residual.ensures.1 in
    rw (p.1, p.2)
    (λ is none h right.
    predicate_wants g s cs (subst (λ a. (ds : List (List Literal)) × AreArranged g a cs ds × (InjectsIfThere g (written_predicate g a ds) → ⊥)) same (c.in_err-written.ensures.refused is)) none h right)
