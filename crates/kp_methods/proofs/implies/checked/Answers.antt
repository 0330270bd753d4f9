use Rattle.std.proofs.lemmas.Result.{err_from_is_err_and}
use Rattle.kp_kore.specs.View.{sort_view, view}
use Rattle.kp_signature.specs.View.{signature_view}
use Rattle.kp_methods.proofs.Implying.{both_checked, both_wrong, faultless_sides, left_wrong, right_failed}
use Rattle.kp_methods.proofs.implies.checked.Goals as goal

pub returns-in_err-sort-clause-failed : goal.returns-in_err-sort-clause-failed
returns-in_err-sort-clause-failed c =
    let e = err_from_is_err_and c.from_residual.result c.from_residual.ensures.1 in
    rw (e.1, e.2) (left_wrong (signature_view c.args.signature.now) (view c.args.left.now) (view c.args.right.now) _ c.in_err-sort.ensures.failed)

pub returns-in_err-_other-clause-failed : goal.returns-in_err-_other-clause-failed
returns-in_err-_other-clause-failed c =
    let g = signature_view c.args.signature.now in
    let e = err_from_is_err_and c.from_residual-in_err-_other.result c.from_residual-in_err-_other.ensures.1 in
    rw (e.1, e.2) (right_failed g (view c.args.left.now) (view c.args.right.now) (view c.body_of.result.now) (sort_view c.in_ok-sort.sort) _ c.body_of.ensures c.in_ok-sort.ensures.found c.in_err-_other.ensures.failed)

pub returns-in_err-check_sides-clause-failed : goal.returns-in_err-check_sides-clause-failed
returns-in_err-check_sides-clause-failed c =
    let g = signature_view c.args.signature.now in
    let p = view c.args.left.now in
    let q = view c.args.right.now in
    let e = err_from_is_err_and c.from_residual-in_err-check_sides.result c.from_residual-in_err-check_sides.ensures.1 in
    rw (e.1, e.2) (both_wrong g p q _ (faultless_sides g p q (view c.body_of.result.now) (sort_view c.in_ok-sort.sort) (sort_view c.in_ok-_other._other) c.body_of.ensures c.in_ok-sort.ensures.found c.in_ok-_other.ensures.found) c.in_err-check_sides.ensures.failed)

pub returns-clause-found : goal.returns-clause-found
returns-clause-found c =
    both_checked (signature_view c.args.signature.now) (view c.args.left.now) (view c.args.right.now) (view c.body_of.result.now) (sort_view c.in_ok-sort.sort) (sort_view c.in_ok-_other._other) c.body_of.ensures c.in_ok-sort.ensures.found c.in_ok-_other.ensures.found c.in_ok-check_sides.ensures.clear
