use Rattle.std.proofs.Common.{sym, ◌∙◌, ap, string_bytes}
use Rattle.std.specs.Str.Parse.{signed_digits_value}
use Rattle.std.proofs.lemmas.Result.{err_from_is_err_and}
use Rattle.kp_kore.specs.View.{sort_view}
use Rattle.kp_kore.specs.Limits.{writes_number, fits_number}
use Rattle.kp_signature.specs.View.{signature_view}
use Rattle.kp_compile.proofs.Literals.{whole_literal}
use Rattle.kp_compile.proofs.literal.literal_value.Goals as goal

pub returns-in_err-whole_number-clause-refused : goal.returns-in_err-whole_number-clause-refused
returns-in_err-whole_number-clause-refused c =
    let p = err_from_is_err_and c.from_residual.result c.from_residual.ensures.1 in
    rw (p.1, p.2) (λ place fault.
    let kept = whole_literal (signature_view c.args.signature.now) place (sort_view c.args.sort.now) (string_bytes c.args.text.now) (sym c.is_integer_sort.ensures ∙ c.if-is_integer_sort.true) fault in
    c.in_err-whole_number.ensures.refused (ap writes_number c.deref.ensures ∙ kept.0) (ap (λ t. fits_number (signed_digits_value 10 t)) c.deref.ensures ∙ kept.1))
