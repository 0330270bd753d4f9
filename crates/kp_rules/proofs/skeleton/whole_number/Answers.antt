use Rattle.std.proofs.Common.{rules, ◌≡◌, sym, ap, ◌∙◌, true, is_ok}
use Rattle.std.specs.Str.Parse.{signed_digits_value}
use Rattle.kp_kore.specs.Limits.{writes_number, fits_number}
use Rattle.kp_signature.proofs.Numerals.{parsed}
use Rattle.kp_rules.proofs.SkeletonLemmas.{no_second}
use Rattle.kp_rules.proofs.skeleton.whole_number.Goals as goal

pub returns-in-Err : goal.returns-in-Err
returns-in-Err c =
    let numeral : writes_number c.args.text.now ≡ true = search rules in
    no_second (writes_number c.args.text.now) (fits_number (signed_digits_value 10 c.args.text.now))
    (sym (parsed c.args.text.now c.parse.result numeral c.parse.ensures.value.0) ∙ ap is_ok c.in-Err.is)
