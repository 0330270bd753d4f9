use Rattle.std.proofs.Common.{◌≡◌, sym, ◌∙◌, ap, true, false, is_ok}
use Rattle.kp_signature.proofs.Numerals.{parsed}
use Rattle.kp_compile.proofs.literal.whole_number.Goals as goal

pub returns-in-Err-clause-refused : goal.returns-in-Err-clause-refused
returns-in-Err-clause-refused c = λ numeral fits.
    let no : false ≡ true = sym (ap is_ok c.in-Err.is) ∙ parsed c.args.text.now c.parse.result numeral c.parse.ensures.value.0 ∙ fits in absurd (cc)
