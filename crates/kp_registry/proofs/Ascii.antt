-- An id is ASCII.
use Rattle.std.proofs.Common.{ℕ, ◌<◌, List, [], ◌∷◌, arith}
use Rattle.std.specs.List.{AllByRecursion}
use Rattle.std.specs.Str.{IsAscii, IsUtf8}
use Rattle.std.proofs.lemmas.Str.{IsUtf8-from_ascii}
use Rattle.std.proofs.lemmas.Str.Ascii.{IsAscii-cons, IsAscii-nil}
use Rattle.hex.proofs.HexLemmas.{IsAscii-encode_with}
use Rattle.hex.specs.Hex.{lower_digits, encode_lower}
use Rattle.sha2.specs.Sha256.{sha256}
use Rattle.kp_registry.specs.Legal.{id_of}

from_each : (bs : List ℕ) → AllByRecursion (λ b. b < 128) bs → IsAscii bs
from_each [] h = IsAscii-nil
from_each (b ∷ bs) h = IsAscii-cons b bs h.0 (from_each bs h.1)

digits_ascii : IsAscii lower_digits
digits_ascii = from_each lower_digits (omega arith, (omega arith, (omega arith, (omega arith, (omega arith, (omega arith, (omega arith, (omega arith, (omega arith, (omega arith, (omega arith, (omega arith, (omega arith, (omega arith, (omega arith, (omega arith, tt))))))))))))))))

pub id_is_text : (text : List ℕ) → IsUtf8 (id_of text)
id_is_text text = IsUtf8-from_ascii (id_of text) (IsAscii-cons 109 (encode_lower (sha256 text)) (omega arith) (IsAscii-encode_with lower_digits (sha256 text) digits_ascii))
