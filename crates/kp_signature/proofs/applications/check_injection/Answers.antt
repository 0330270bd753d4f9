use Rattle.std.proofs.Common.{◌≡◌, subst, Some, None, string_bytes, arith}
use Rattle.std.proofs.lemmas.Result.{err_from_is_err_and}
use Rattle.kp_kore.specs.Syntax.{application}
use Rattle.kp_signature.specs.Verify.{injection_fault}
use Rattle.kp_signature.specs.View.{signature_view}
use Rattle.kp_signature.proofs.Applied.{not_two, just_two}
use Rattle.kp_signature.proofs.applications.check_injection.Goals as goal

pub returns-then-sorts-ne2-clause-ok : goal.returns-then-sorts-ne2-clause-ok
returns-then-sorts-ne2-clause-ok c ps = not_two (signature_view c.args.signature.now) (string_bytes c.args.symbol.now) c.args.sorts.now ps c.if-sorts-ne2.true

pub returns-in_err-check_upwards-clause-err : goal.returns-in_err-check_upwards-clause-err
returns-in_err-check_upwards-clause-err c =
    let p = err_from_is_err_and c.from_residual.result c.from_residual.ensures.1 in
    rw (p.1, p.2) (λ f ps is. subst (λ ss. injection_fault (signature_view c.args.signature.now) (application (string_bytes c.args.symbol.now) ss ps) ≡ Some f)
    (just_two c.args.sorts.now c.index-sorts-0.result c.index-sorts-1.result (omega arith) c.index-sorts-0.is c.index-sorts-1.is)
    (c.in_err-check_upwards.ensures.err f ps is))

pub returns-clause-ok : goal.returns-clause-ok
returns-clause-ok c ps =
    subst (λ ss. injection_fault (signature_view c.args.signature.now) (application (string_bytes c.args.symbol.now) ss ps) ≡ None)
    (just_two c.args.sorts.now c.index-sorts-0.result c.index-sorts-1.result (omega arith) c.index-sorts-0.is c.index-sorts-1.is)
    (c.in_ok-check_upwards.ensures.ok ps)
