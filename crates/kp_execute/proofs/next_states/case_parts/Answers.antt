use Rattle.std.proofs.Common.{ap, ◌∙◌}
use Rattle.std.proofs.lemmas.List.{map-append}
use Rattle.kp_results.specs.View.{next_view, nexts_view}
use Rattle.kp_execute.proofs.EndedLemmas.{cases_are_written}
use Rattle.std.proofs.lemmas.Result.{err_from_is_err_and}
use Rattle.kp_execute.specs.Wants.{in_next, in_remainder}
use Rattle.kp_execute.proofs.next_states.case_parts.Goals as goal

pub returns-clause-written : goal.returns-clause-written
returns-clause-written c = λ t runs same.
    cases_are_written t c.args.nexts.now c.args.remainder.now (nexts_view c.in_ok-found.found.items) (nexts_view c.in_ok-others.others.items) (nexts_view c.append.new.self.items) (c.in_ok-found.ensures.written t runs same) (c.in_ok-others.ensures.written t same)
    (ap nexts_view c.in_ok-append.ensures.items ∙ map-append next_view c.in_ok-found.found.items c.in_ok-others.others.items)

pub returns-in_err-found-clause-wants : goal.returns-in_err-found-clause-wants
returns-in_err-found-clause-wants c =
    let p = err_from_is_err_and c.from_residual.result c.from_residual.ensures.1 in
    rw (p.1, p.2) (λ is. in_next (c.in_err-found.ensures.wants is))

pub returns-in_err-others-clause-wants : goal.returns-in_err-others-clause-wants
returns-in_err-others-clause-wants c =
    let p = err_from_is_err_and c.from_residual-in_err-others.result c.from_residual-in_err-others.ensures.1 in
    rw (p.1, p.2) (λ is. in_remainder (c.in_err-others.ensures.wants is))
