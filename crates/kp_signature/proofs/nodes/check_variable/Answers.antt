use Rattle.std.proofs.lemmas.Result.{err_from_is_err_and}
use Rattle.kp_signature.proofs.NodeLemmas.{first_told, next_told}
use Rattle.kp_signature.proofs.nodes.check_variable.Goals as goal

pub returns-in_err-meet_variable-clause-err : goal.returns-in_err-meet_variable-clause-err
returns-in_err-meet_variable-clause-err c =
    let p = err_from_is_err_and c.from_residual-in_err-meet_variable.result c.from_residual-in_err-meet_variable.ensures.1 in
    rw (p.1, p.2) (λ f s knows is. next_told c.in_ok-check_known.ensures.ok (next_told c.in_ok-check_sort.ensures.ok (first_told _ (c.in_err-meet_variable.ensures.err f s knows is))))
