use Rattle.std.proofs.lemmas.Result.{IfErr-weaker, IfOk-weaker, err_from_is_err_and}
use Rattle.kp_kore.specs.View.{view}
use Rattle.kp_requests.specs.View.{reading_view}
use Rattle.kp_methods.specs.Prepared.{signature_in}
use Rattle.kp_methods.proofs.Implying.{left_unread, of_read, right_unread, told_of_read}
use Rattle.kp_methods.proofs.implies.implied.Goals as goal

pub returns-in_err-left-clause-failed : goal.returns-in_err-left-clause-failed
returns-in_err-left-clause-failed c =
    let p = err_from_is_err_and c.from_residual.result c.from_residual.ensures.1 in
    rw (p.1, p.2) (left_unread (signature_in c.args.prepared.now) (reading_view c.args.antecedent) (reading_view c.args.consequent) _ c.in_err-left.ensures.failed)

pub returns-in_err-right-clause-failed : goal.returns-in_err-right-clause-failed
returns-in_err-right-clause-failed c =
    let p = err_from_is_err_and c.from_residual-in_err-right.result c.from_residual-in_err-right.ensures.1 in
    rw (p.1, p.2) (right_unread (signature_in c.args.prepared.now) (reading_view c.args.antecedent) (reading_view c.args.consequent) (view c.in_ok-left.left) _ c.in_ok-left.ensures.found c.in_err-right.ensures.failed)

pub returns-clause-found : goal.returns-clause-found
returns-clause-found c =
    IfOk-weaker c.compared.result _ _ (λ x h. told_of_read (signature_in c.args.prepared.now) (reading_view c.args.antecedent) (reading_view c.args.consequent) (view c.in_ok-left.left) (view c.in_ok-right.right) x c.in_ok-left.ensures.found c.in_ok-right.ensures.found h) c.compared.ensures.found

pub returns-clause-failed : goal.returns-clause-failed
returns-clause-failed c =
    IfErr-weaker c.compared.result _ _ (λ f w. of_read (signature_in c.args.prepared.now) (reading_view c.args.antecedent) (reading_view c.args.consequent) (view c.in_ok-left.left) (view c.in_ok-right.right) f c.in_ok-left.ensures.found c.in_ok-right.ensures.found w) c.compared.ensures.failed
