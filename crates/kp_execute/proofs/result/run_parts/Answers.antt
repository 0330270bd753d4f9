use Rattle.std.proofs.Common.{subst}
use Rattle.kp_results.specs.View.{executed_view, nexts_view, reason_view, state_view as parts_view}
use Rattle.kp_symbolic.specs.View.{state_view}
use Rattle.kp_execute.specs.Ended.{IsEndOf}
use Rattle.kp_execute.specs.Written.{IsStateWritten}
use Rattle.kp_execute.proofs.EndedLemmas.{run_written}
use Rattle.std.proofs.lemmas.Result.{err_from_is_err_and}
use Rattle.kp_execute.specs.Wants.{in_end, in_last}
use Rattle.kp_execute.proofs.result.run_parts.Goals as goal

pub returns-in_ok-executed-in-Some-clause-written : goal.returns-in_ok-executed-in-Some-clause-written
returns-in_ok-executed-in-Some-clause-written c = λ t runs same.
    let run = c.args.run.now in
    run_written t run (executed_view c.in_ok-executed-in-Some.executed) (parts_view c.in_ok-written.written) (reason_view c.in-Some.end.reason) (nexts_view c.in-Some.end.nexts.items) c.in_ok-executed-in-Some.ensures.same
    (subst (λ g. IsStateWritten g (state_view run.state) (parts_view c.in_ok-written.written)) same c.in_ok-written.ensures.written)
    c.in_ok-executed-in-Some.ensures.shown
    (subst (IsEndOf t run.ending) c.in-Some.is (c.in_ok-end.ensures.written t runs same))
    c.in_ok-executed-in-Some.ensures.none_lost

pub returns-in-None-clause-written : goal.returns-in-None-clause-written
returns-in-None-clause-written c = λ t runs same.
    let run = c.args.run.now in
    (subst (λ g. IsStateWritten g (state_view run.state) (parts_view c.in_ok-written.written)) same c.in_ok-written.ensures.written, subst (IsEndOf t run.ending) c.in-None.is (c.in_ok-end.ensures.written t runs same))

pub returns-in_err-written-clause-wants : goal.returns-in_err-written-clause-wants
returns-in_err-written-clause-wants c =
    let p = err_from_is_err_and c.from_residual.result c.from_residual.ensures.1 in
    rw (p.1, p.2) (λ is. in_last (c.in_err-written.ensures.wants is))

pub returns-in_err-end-clause-wants : goal.returns-in_err-end-clause-wants
returns-in_err-end-clause-wants c =
    let sort = (state_view c.args.run.now.state).sort in
    let p = err_from_is_err_and c.from_residual-in_err-end.result c.from_residual-in_err-end.ensures.1 in
    rw (p.1, p.2) (λ is. in_end (c.in_err-end.ensures.wants is sort))

pub returns-in_err-executed-in-Some-clause-wants : goal.returns-in_err-executed-in-Some-clause-wants
returns-in_err-executed-in-Some-clause-wants c =
    let p = err_from_is_err_and c.from_residual-in_err-executed-in-Some.result c.from_residual-in_err-executed-in-Some.ensures.1 in
    rw (p.1, p.2) (λ is. absurd (c.in_err-executed-in-Some.ensures.refused is))
