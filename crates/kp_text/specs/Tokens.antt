-- From bytes to the tokens of Kore text: white space and comments fall away, strings stand for their characters.
-- A place in a text is told by how many bytes are left there.
-- Source: the K framework's Kore language, lexical syntax; UTF-8 as Unicode has it.
use Rattle.std.specs.Prelude.{ℕ, suc, ◌+◌, ◌*◌, ◌-◌, Bool, ◌||◌, List, [], ◌∷◌, ◌++◌, length, take, drop, Option, Some, None, ◌==◌, nat_lt, if◌then◌else◌, encode_utf8}
use Rattle.std.specs.Char.{is_ascii_alphabetic, is_ascii_digit, is_digit, digit_value}
use Rattle.std.specs.Str.{all_scalars}
use Rattle.std.specs.Str.Lossy.{utf8_valid_len, utf8_error_len}
use Rattle.kp_kore.specs.Syntax.{Text}
use Rattle.kp_text.specs.declared.fault.FaultKind.{FaultKind}
use Rattle.kp_text.specs.declared.fault.FaultKind.TheVariants as kind
use Rattle.kp_text.specs.declared.tail.Tail.{Tail}
use Rattle.kp_text.specs.declared.tail.Tail.TheVariants.{Whole, Bad, Cut}

pub data KoreToken : Type 0 where
  -- an identifier
  identifier : Text → KoreToken
  -- a backslash and an identifier, as \and
  backslashed : Text → KoreToken
  -- a string, by the characters that it stands for
  string_token : Text → KoreToken
  -- one of { } ( ) [ ] , : @ by its character's code
  mark : ℕ → KoreToken
  -- :=
  defined_as : KoreToken

-- what stands in a text from some place on
pub data Lexemes : Type 0 where
  -- nothing more
  finished : Lexemes
  -- a token, where it begins, and what comes after it
  lexeme : ℕ → KoreToken → Lexemes → Lexemes
  -- a fault where it stands
  broken : ℕ → FaultKind → Lexemes
  -- a string that begins at a place, and its fault where that stands
  broken_string : ℕ → ℕ → FaultKind → Lexemes

-- the places between the bytes of a token, a comment or a string
pub data Lexing : Type 0 where
  between : Lexing
  -- after a slash, which stands at a place
  after_slash : ℕ → Lexing
  in_line_comment : Lexing
  in_comment : Lexing
  -- in a comment after a star
  after_star : Lexing
  -- in an identifier that begins at a place, after these bytes of it
  in_identifier : ℕ → Text → Lexing
  -- after a backslash at a place, and after letters that follow it
  after_backslash : ℕ → Lexing
  in_backslashed : ℕ → Text → Lexing
  after_colon : ℕ → Lexing
  -- in a string that begins at a place, after what stands for this text
  in_string : ℕ → Text → Lexing
  -- there after a backslash, and with so many hexadecimal digits still to come after those of a number
  after_escape : ℕ → Text → Lexing
  in_number : ℕ → Text → ℕ → ℕ → Lexing

-- space, tab, carriage return and line feed
abbrev pub is_white : ℕ → Bool
is_white b = ((b == 32) || (b == 9)) || ((b == 13) || (b == 10))

-- the letters, digits, ' and - that an identifier has after its first letter
abbrev pub is_identifier_byte : ℕ → Bool
is_identifier_byte b = (is_ascii_alphabetic b || is_ascii_digit b) || ((b == 39) || (b == 45))

-- { } ( ) [ ] , @
abbrev pub is_mark : ℕ → Bool
is_mark b = (((b == 123) || (b == 125)) || ((b == 40) || (b == 41))) || (((b == 91) || (b == 93)) || ((b == 44) || (b == 64)))

-- what begins with the byte b, where left bytes are left; on is what stands in the text after b, by the place there
abbrev pub begun : (Lexing → Lexemes) → ℕ → ℕ → Lexemes
begun on b left =
    if is_white b then on between
    else if is_ascii_alphabetic b then on (in_identifier left (b ∷ []))
    else if is_mark b then lexeme left (mark b) (on between)
    else if b == 58 then on (after_colon left)
    else if b == 92 then on (after_backslash left)
    else if b == 34 then on (in_string left [])
    else if b == 47 then on (after_slash left)
    else broken left kind.Byte

-- the byte b in a string: a quote ends it, a backslash begins an escape, a line feed is a fault
abbrev pub in_string_at : (Lexing → Lexemes) → ℕ → Text → ℕ → Lexemes
in_string_at on quote t b =
    if b == 34 then lexeme quote (string_token t) (on between)
    else if b == 92 then on (after_escape quote t)
    else if b == 10 then broken_string quote quote kind.String
    else on (in_string quote (t ++ b ∷ []))

-- the byte b after a backslash in a string: n r t f " \ and x, u, U with 2, 4 and 8 hexadecimal digits
abbrev pub escaped_at : (Lexing → Lexemes) → ℕ → Text → ℕ → Lexemes
escaped_at on quote t b =
    if b == 110 then on (in_string quote (t ++ 10 ∷ []))
    else if b == 114 then on (in_string quote (t ++ 13 ∷ []))
    else if b == 116 then on (in_string quote (t ++ 9 ∷ []))
    else if b == 102 then on (in_string quote (t ++ 12 ∷ []))
    else if (b == 34) || (b == 92) then on (in_string quote (t ++ b ∷ []))
    else if b == 120 then on (in_number quote t 2 0)
    else if b == 117 then on (in_number quote t 4 0)
    else if b == 85 then on (in_number quote t 8 0)
    else broken_string quote quote kind.String

-- the byte b where a number has more digits to come: with the last one it names a character
abbrev pub digit_at : (Lexing → Lexemes) → ℕ → Text → ℕ → ℕ → ℕ → Lexemes
digit_at on quote t more n b =
    if is_digit b 16 then
    (if nat_lt 1 more then on (in_number quote t (more - 1) (n * 16 + digit_value b))
    else if all_scalars ((n * 16 + digit_value b) ∷ []) then on (in_string quote (t ++ encode_utf8 (n * 16 + digit_value b)))
    else broken_string quote quote kind.String)
    else broken_string quote quote kind.String

-- one byte further
abbrev pub further : (Lexing → Lexemes) → Lexing → ℕ → ℕ → Lexemes
further on between b left = begun on b left
further on (after_slash at) b left = if b == 47 then on in_line_comment else if b == 42 then on in_comment else broken at kind.Byte
further on in_line_comment b left = if b == 10 then on between else on in_line_comment
further on in_comment b left = if b == 42 then on after_star else on in_comment
further on after_star b left = if b == 47 then on between else if b == 42 then on after_star else on in_comment
further on (in_identifier at t) b left = if is_identifier_byte b then on (in_identifier at (t ++ b ∷ [])) else lexeme at (identifier t) (begun on b left)
further on (after_backslash at) b left = if is_ascii_alphabetic b then on (in_backslashed at (b ∷ [])) else broken at kind.Byte
further on (in_backslashed at t) b left = if is_identifier_byte b then on (in_backslashed at (t ++ b ∷ [])) else lexeme at (backslashed t) (begun on b left)
further on (after_colon at) b left = if b == 61 then lexeme at defined_as (on between) else lexeme at (mark 58) (begun on b left)
further on (in_string quote t) b left = in_string_at on quote t b
further on (after_escape quote t) b left = escaped_at on quote t b
further on (in_number quote t more n) b left = digit_at on quote t more n b

-- the kind of the fault at a tail inside a string or a comment
abbrev pub tail_kind : Tail → FaultKind
tail_kind Whole = kind.End
tail_kind Bad = kind.Byte
tail_kind Cut = kind.End

-- what a tail is outside of strings and comments, and what it is right after a line comment
abbrev pub tail_between : Tail → Lexemes
tail_between Whole = finished
tail_between Bad = broken 0 kind.Byte
tail_between Cut = broken 0 kind.Byte

abbrev pub tail_in_line : Tail → Lexemes
tail_in_line Whole = finished
tail_in_line Bad = broken 0 kind.Byte
tail_in_line Cut = broken 0 kind.End

-- after a slash or a backslash at a place: the end may still become a token, other bytes don't
abbrev pub tail_after : Tail → ℕ → Lexemes
tail_after Whole at = broken 0 kind.End
tail_after Bad at = broken at kind.Byte
tail_after Cut at = broken at kind.Byte

-- what stands at the end of the front
abbrev pub at_tail : Tail → Lexing → Lexemes
at_tail tail between = tail_between tail
at_tail tail (after_slash at) = tail_after tail at
at_tail tail in_line_comment = tail_in_line tail
at_tail tail in_comment = broken 0 (tail_kind tail)
at_tail tail after_star = broken 0 (tail_kind tail)
at_tail tail (in_identifier at t) = lexeme at (identifier t) (tail_between tail)
at_tail tail (after_backslash at) = tail_after tail at
at_tail tail (in_backslashed at t) = lexeme at (backslashed t) (tail_between tail)
at_tail tail (after_colon at) = lexeme at (mark 58) (tail_between tail)
at_tail tail (in_string quote t) = broken_string quote 0 (tail_kind tail)
at_tail tail (after_escape quote t) = broken_string quote 0 (tail_kind tail)
at_tail tail (in_number quote t more n) = broken_string quote 0 (tail_kind tail)

-- what stands in UTF-8 bytes that a tail follows
abbrev pub lexed : Tail → List ℕ → Lexing → Lexemes
lexed tail [] = at_tail tail
lexed tail (b ∷ bs) = λ s. further (lexed tail bs) s b (suc (length bs))

-- the tail that begins with these bytes
abbrev pub tail_of_bytes : List ℕ → Tail
tail_of_bytes [] = Whole
tail_of_bytes (b ∷ bs) = of_length (utf8_error_len (b ∷ bs))
  where
    of_length : Option ℕ → Tail
    of_length (Some k) = Bad
    of_length None = Cut

-- the longest front that is UTF-8, and what follows it
abbrev pub utf8_front : List ℕ → List ℕ
utf8_front bytes = take (utf8_valid_len bytes) bytes

abbrev pub utf8_tail : List ℕ → Tail
utf8_tail bytes = tail_of_bytes (drop (utf8_valid_len bytes) bytes)

-- what stands in a text
abbrev pub lexemes : List ℕ → Lexemes
lexemes bytes = lexed (utf8_tail bytes) (utf8_front bytes) between
