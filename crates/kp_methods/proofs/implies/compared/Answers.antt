use Rattle.std.proofs.Common.{ap, subst}
use Rattle.std.proofs.lemmas.Result.{err_from_is_err_and}
use Rattle.kp_json.specs.Faults.{read}
use Rattle.kp_kore.specs.View.{sort_view, view}
use Rattle.kp_signature.specs.View.{signature_view}
use Rattle.kp_methods.specs.Prepared.{signature_in}
use Rattle.kp_methods.specs.ImpliedLines.{AreChecked, IsSidesFailure}
use Rattle.kp_methods.proofs.Implying.{wrong_over}
use Rattle.kp_methods.proofs.implies.compared.Goals as goal

pub returns-in_err-sort-clause-failed : goal.returns-in_err-sort-clause-failed
returns-in_err-sort-clause-failed c =
    let e = err_from_is_err_and c.from_residual.result c.from_residual.ensures.1 in
    rw (e.1, e.2) (wrong_over (signature_view c.deref.result.now) (signature_in c.args.prepared.now) (ap signature_view c.deref.ensures) (read (view c.args.left.now)) (read (view c.args.right.now)) _ c.in_err-sort.ensures.failed)

pub returns-clause-found : goal.returns-clause-found
returns-clause-found c = c.told_of.ensures.found (subst (λ g. AreChecked g (view c.args.left.now) (view c.args.right.now) (sort_view c.in_ok-sort.sort)) (ap signature_view c.deref.ensures) c.in_ok-sort.ensures.found)

pub returns-clause-failed : goal.returns-clause-failed
returns-clause-failed c = c.told_of.ensures.failed (subst (λ g. AreChecked g (view c.args.left.now) (view c.args.right.now) (sort_view c.in_ok-sort.sort)) (ap signature_view c.deref.ensures) c.in_ok-sort.ensures.found)
