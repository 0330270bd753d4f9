-- How a string of Kore text is written: between quotes, each character bare or by its shortest escape.
-- Source: the K framework's Kore language, lexical syntax of strings.
use Rattle.std.specs.Prelude.{ℕ, ◌/◌, ◌%◌, ◌||◌, ◌&&◌, List, [], ◌∷◌, ◌++◌, ◌==◌, nat_lt, if◌then◌else◌, codes}
use Rattle.std.specs.Char.{digit_char}
use Rattle.std.specs.List.{flat_map}
use Rattle.std.specs.Str.{chars}
use Rattle.kp_kore.specs.Syntax.{Text}

-- numbers below 256, 256^2 and 256^4 by hexadecimal digits, with lower-case letters
abbrev pub two_digits : ℕ → Text
two_digits n = digit_char (n / 16) ∷ (digit_char (n % 16) ∷ [])

abbrev pub four_digits : ℕ → Text
four_digits n = two_digits (n / 256) ++ two_digits (n % 256)

abbrev pub eight_digits : ℕ → Text
eight_digits n = four_digits (n / 65536) ++ four_digits (n % 65536)

-- a character by its number, in the fewest digits
abbrev pub number_text : ℕ → Text
number_text c =
    if nat_lt c 256 then codes "\\x" ++ two_digits c
    else if nat_lt c 65536 then codes "\\u" ++ four_digits c
    else codes "\\U" ++ eight_digits c

-- a character: six have short escapes, those from the space to the tilde stand bare, the others are told by number
abbrev pub character_text : ℕ → Text
character_text c =
    if c == 10 then codes "\\n"
    else if c == 13 then codes "\\r"
    else if c == 9 then codes "\\t"
    else if c == 12 then codes "\\f"
    else if (c == 34) || (c == 92) then 92 ∷ (c ∷ [])
    else if nat_lt 31 c && nat_lt c 127 then c ∷ []
    else number_text c

abbrev pub characters_text : List ℕ → Text
characters_text cs = flat_map character_text cs

-- a string, whose characters these bytes of UTF-8 are
abbrev pub quoted : Text → Text
quoted t = codes "\"" ++ characters_text (chars t) ++ codes "\""
