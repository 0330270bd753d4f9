use Rattle.std.proofs.lemmas.Result.{err_from_is_err_and}
use Rattle.kp_execute.proofs.written.added_predicate.Goals as goal

pub returns-in_err-predicate-clause-wants : goal.returns-in_err-predicate-clause-wants
returns-in_err-predicate-clause-wants c =
    let p = err_from_is_err_and c.from_residual.result c.from_residual.ensures.1 in
    rw (p.1, p.2) c.in_err-predicate.ensures.wants
