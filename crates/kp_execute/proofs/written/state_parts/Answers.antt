use Rattle.std.proofs.Common.{ap}
use Rattle.std.proofs.lemmas.Result.{err_from_is_err_and}
use Rattle.kp_kore.specs.View.{sort_view}
use Rattle.kp_symbolic.specs.Languages.{language_view}
use Rattle.kp_symbolic.specs.View.{clauses_view, state_view}
use Rattle.kp_execute.specs.Wants.{in_predicate, in_term}
use Rattle.kp_execute.proofs.WantsLemmas.{clauses_want}
use Rattle.kp_execute.proofs.written.state_parts.Goals as goal

pub returns-in_err-predicate-clause-wants : goal.returns-in_err-predicate-clause-wants
returns-in_err-predicate-clause-wants c =
    let g = language_view c.args.language.now in
    let s = state_view c.args.state.now in
    let p = err_from_is_err_and c.from_residual.result c.from_residual.ensures.1 in
    rw (p.1, p.2) (λ is. in_predicate (clauses_want g (sort_view c.deref.result.now) s.sort (clauses_view c.deref-2.result.now) s.clauses (ap sort_view c.deref.ensures) (ap clauses_view c.deref-2.ensures.value) (c.in_err-predicate.ensures.wants is)))

pub returns-in-Err-clause-wants : goal.returns-in-Err-clause-wants
returns-in-Err-clause-wants c = λ is. in_term (c.in-Err.ensures.wants is)
