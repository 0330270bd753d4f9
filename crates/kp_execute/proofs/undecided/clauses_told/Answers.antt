use Rattle.std.proofs.Common.{subst, Some, ap}
use Rattle.std.specs.Option.{option_map}
use Rattle.kp_kore.specs.View.{view, sort_view}
use Rattle.kp_results.specs.View.{limit_view}
use Rattle.kp_symbolic.specs.Languages.{language_view}
use Rattle.kp_symbolic.specs.View.{clauses_view, state_view}
use Rattle.kp_execute.specs.Written.{AreWritten}
use Rattle.kp_execute.proofs.AnswerLemmas.{open_by_clauses}
use Rattle.std.proofs.lemmas.Result.{err_from_is_err_and}
use Rattle.kp_execute.proofs.WantsLemmas.{clauses_want}
use Rattle.kp_execute.proofs.undecided.clauses_told.Goals as goal

pub returns-in-Some-clause-told : goal.returns-in-Some-clause-told
returns-in-Some-clause-told c = λ t same told.
    let s = state_view c.args.state.now in
    let shown = clauses_view c.args.told.now.shown.items in
    let q = view c.in-Some.predicate in
    let g = language_view c.args.language.now in
    let here : AreWritten g (sort_view c.deref.result.now) (clauses_view c.deref-2.result.now) (Some q) = subst (λ o. AreWritten g (sort_view c.deref.result.now) (clauses_view c.deref-2.result.now) (option_map view o)) c.in-Some.is c.in_ok-predicate.ensures.written in
    let written : AreWritten g s.sort shown (Some q) = subst (λ cs. AreWritten g s.sort (clauses_view cs) (Some q)) c.deref-2.ensures.value (subst (λ x. AreWritten g (sort_view x) (clauses_view c.deref-2.result.now) (Some q)) c.deref.ensures here) in
    open_by_clauses t s shown c.args.told.now.over c.args.place (option_map limit_view c.limit_of.result) q told c.limit_of.ensures (subst (λ x. AreWritten x s.sort shown (Some q)) same written)

pub returns-in_err-predicate-clause-wants : goal.returns-in_err-predicate-clause-wants
returns-in_err-predicate-clause-wants c =
    let g = language_view c.args.language.now in
    let s = state_view c.args.state.now in
    let p = err_from_is_err_and c.from_residual.result c.from_residual.ensures.1 in
    rw (p.1, p.2) (λ is. clauses_want g (sort_view c.deref.result.now) s.sort (clauses_view c.deref-2.result.now) (clauses_view c.args.told.now.shown.items) (ap sort_view c.deref.ensures) (ap clauses_view c.deref-2.ensures.value) (c.in_err-predicate.ensures.wants is))
