use Rattle.std.proofs.Common.{refl, rules}
use Rattle.std.specs.Str.Lossy.{utf8_valid_len, utf8_error_len}
use Rattle.std.specs.Str.{is_utf8, chars}
use Rattle.std.specs.Char.{encode_utf8}
use Rattle.std.specs.Prelude.{codes}
use Rattle.kp_text.specs.Grammar.{written_variable, written_variadic, no_writings, next_writing}
use Rattle.kp_text.specs.Examples.{sort_s}
use Rattle.kp_text.specs.declared.keyword.Variadic.TheVariants.{And}
use Rattle.kp_text.proofs.laws.conjunctions_of_none_and_of_one.Goals as goal

pub returns-clause-none : goal.returns-clause-none
unfolding utf8_valid_len utf8_error_len is_utf8 chars encode_utf8
returns-clause-none c = (written_variadic And sort_s no_writings, record { tokens = refl; shallow = search rules }, refl)

pub returns-clause-one : goal.returns-clause-one
unfolding utf8_valid_len utf8_error_len is_utf8 chars encode_utf8
returns-clause-one c = (written_variadic And sort_s (next_writing (written_variable (codes "X") sort_s) no_writings), record { tokens = refl; shallow = search rules }, refl)
