use Rattle.std.proofs.Common.{refl}
use Rattle.std.proofs.lemmas.Result.{err_from_is_err_and}
use Rattle.kp_execute.proofs.result.branching.Goals as goal

pub returns-clause-written : goal.returns-clause-written
returns-clause-written c = λ t runs same. (refl, c.in_ok-nexts.ensures.written t runs same)

pub returns-in_err-nexts-clause-wants : goal.returns-in_err-nexts-clause-wants
returns-in_err-nexts-clause-wants c =
    let p = err_from_is_err_and c.from_residual.result c.from_residual.ensures.1 in
    rw (p.1, p.2) c.in_err-nexts.ensures.wants
