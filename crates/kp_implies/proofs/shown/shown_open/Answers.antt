use Rattle.std.proofs.Common.{ap}
use Rattle.std.proofs.lemmas.Result.{err_from_is_err_and}
use Rattle.std.specs.Option.{option_map}
use Rattle.kp_kore.specs.View.{sort_view, view}
use Rattle.kp_symbolic.specs.Languages.{language_view}
use Rattle.kp_symbolic.specs.View.{clauses_view}
use Rattle.kp_implies.proofs.ToldLemmas.{predicate_told, unanswered}
use Rattle.kp_implies.proofs.shown.shown_open.Goals as goal

pub returns-in-Some-clause-shown : goal.returns-in-Some-clause-shown
returns-in-Some-clause-shown c = λ h weighed. (
  view c.in-Some.predicate.value,
  predicate_told (language_view c.args.language.now) (sort_view c.args.sort.now) (clauses_view c.args.clauses.now) (option_map (λ p. view p.value) c.in_ok-written.written) (view c.in-Some.predicate.value) c.in_ok-written.ensures.written
      (ap (option_map (λ p. view p.value)) c.in-Some.is),
  c.predicate_shown.ensures h weighed,
)

pub returns-in_err-written-clause-refused : goal.returns-in_err-written-clause-refused
returns-in_err-written-clause-refused c =
    let p = err_from_is_err_and c.from_residual.result c.from_residual.ensures.1 in
    rw p.1 (unanswered (language_view c.args.language.now) (sort_view c.args.sort.now) (clauses_view c.args.clauses.now) _ p.0 p.2 c.in_err-written.ensures.refused)
