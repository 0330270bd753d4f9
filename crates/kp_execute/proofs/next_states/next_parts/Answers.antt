use Rattle.std.proofs.Common.{refl, subst, ap, Some}
use Rattle.kp_kore.specs.View.{view, sort_view}
use Rattle.kp_results.specs.View.{next_view, state_view as parts_view}
use Rattle.kp_symbolic.specs.Languages.{language_view}
use Rattle.kp_symbolic.specs.View.{clauses_view, state_view}
use Rattle.kp_unify.specs.Views.{part_view}
use Rattle.kp_execute.specs.Written.{IsStateWritten}
use Rattle.std.specs.Prelude.{string_bytes}
use Rattle.kp_execute.proofs.EndedLemmas.{added_of, next_is_written}
use Rattle.std.proofs.lemmas.Result.{err_from_is_err_and}
use Rattle.kp_execute.specs.Wants.{in_added, in_state}
use Rattle.kp_execute.proofs.WantsLemmas.{clauses_want}
use Rattle.kp_execute.proofs.next_states.next_parts.Goals as goal

pub returns-in-Ok-clause-written : goal.returns-in-Ok-clause-written
returns-in-Ok-clause-written c = λ t runs same.
    let part = part_view c.args.next.now.part in
    next_is_written t c.args.next.now (next_view (record { rule = Some c.in_ok-rule.rule; predicate = c.in_ok-predicate.predicate; state = c.in-Ok.state })) (string_bytes c.in_ok-rule.rule) (c.in_ok-rule.ensures.found t runs) refl
    (added_of (language_view c.args.language.now) t.signature (sort_view c.deref.result.now) part.state.sort (clauses_view c.deref-2.result.now) part.added (view c.in_ok-predicate.predicate) same (ap sort_view c.deref.ensures) (ap clauses_view c.deref-2.ensures.value) c.in_ok-predicate.ensures.written)
    (subst (λ g. IsStateWritten g (state_view c.args.next.now.state) (parts_view c.in-Ok.state)) same c.in-Ok.ensures.written)

pub returns-in_err-rule-clause-wants : goal.returns-in_err-rule-clause-wants
returns-in_err-rule-clause-wants c =
    let p = err_from_is_err_and c.from_residual.result c.from_residual.ensures.1 in
    rw (p.1, p.2) (λ is. absurd (c.in_err-rule.ensures.refused is))

pub returns-in_err-predicate-clause-wants : goal.returns-in_err-predicate-clause-wants
returns-in_err-predicate-clause-wants c =
    let g = language_view c.args.language.now in
    let part = part_view c.args.next.now.part in
    let p = err_from_is_err_and c.from_residual-in_err-predicate.result c.from_residual-in_err-predicate.ensures.1 in
    rw (p.1, p.2) (λ is. in_added (clauses_want g (sort_view c.deref.result.now) part.state.sort (clauses_view c.deref-2.result.now) part.added (ap sort_view c.deref.ensures) (ap clauses_view c.deref-2.ensures.value) (c.in_err-predicate.ensures.wants is)))

pub returns-in-Err-clause-wants : goal.returns-in-Err-clause-wants
returns-in-Err-clause-wants c = λ is. in_state (c.in-Err.ensures.wants is)
