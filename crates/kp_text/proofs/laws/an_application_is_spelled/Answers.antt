use Rattle.std.proofs.Common.{[], ◌∷◌, refl, rules}
use Rattle.std.specs.Str.Lossy.{utf8_valid_len, utf8_error_len}
use Rattle.std.specs.Str.{is_utf8, chars}
use Rattle.std.specs.Char.{encode_utf8}
use Rattle.std.specs.Prelude.{codes}
use Rattle.kp_kore.specs.Syntax.{no_sorts, next_sort}
use Rattle.kp_text.specs.Grammar.{written_variable, written_string, written_application, no_writings, next_writing}
use Rattle.kp_text.specs.Examples.{sort_s}
use Rattle.kp_text.proofs.laws.an_application_is_spelled.Goals as goal

pub returns : goal.returns
unfolding utf8_valid_len utf8_error_len is_utf8 chars encode_utf8
returns c = (written_application (codes "f") (next_sort sort_s no_sorts) (next_writing (written_variable (codes "X") sort_s) (next_writing (written_string (97 ∷ (10 ∷ []))) no_writings)), record { tokens = refl; shallow = search rules }, refl)
