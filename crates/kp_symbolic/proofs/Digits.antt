-- Small numbers as they are written.
use Rattle.std.proofs.Common.{◌≡◌, refl, ◌∙◌, [], ◌∷◌, arith}
use Rattle.std.specs.Fmt.{decimal}
use Rattle.std.proofs.lemmas.Fmt.{decimal-digits_of, decimal_digit}

pub one_digit : decimal 1 ≡ 49 ∷ []
one_digit = decimal-digits_of 1 (omega arith) (omega arith) ∙ refl

pub two_digit : decimal 2 ≡ 50 ∷ []
two_digit = decimal-digits_of 2 (omega arith) (omega arith) ∙ refl

pub zero_digit : decimal 0 ≡ 48 ∷ []
zero_digit = decimal_digit 0 (omega arith)
