use Rattle.std.proofs.lemmas.Result.{err_from_is_err_and}
use Rattle.kp_ground.specs.TermView.{term_view}
use Rattle.kp_successors.proofs.Refused.{evaluated_wide}
use Rattle.kp_successors.proofs.narrow.evaluates.Goals as goal

pub returns-clause-narrow : goal.returns-clause-narrow
returns-clause-narrow c = λ v s. (c.in_ok-_value.ensures v s).1

pub returns-in_err-_value-clause-wide : goal.returns-in_err-_value-clause-wide
returns-in_err-_value-clause-wide c =
    let p = err_from_is_err_and c.from_residual.result c.from_residual.ensures.1 in
    rw (p.1, p.2) (λ is. evaluated_wide c.in_err-_value.field-0.0 c.args.bindings.now (term_view c.args.term.now) c.in_err-_value.ensures is)
