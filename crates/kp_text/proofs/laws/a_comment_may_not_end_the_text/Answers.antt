use Rattle.std.proofs.Common.{refl}
use Rattle.std.specs.Str.Lossy.{utf8_valid_len, utf8_error_len}
use Rattle.std.specs.Str.{is_utf8, chars}
use Rattle.std.specs.Char.{encode_utf8}
use Rattle.kp_text.proofs.laws.a_comment_may_not_end_the_text.Goals as goal

pub returns : goal.returns
unfolding utf8_valid_len utf8_error_len is_utf8 chars encode_utf8
returns c = (0, (refl, refl), refl)
