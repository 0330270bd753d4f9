-- What the lexer's answers say of a text.
use Rattle.std.specs.Prelude.{ℕ, ◌<◌, ◌≤◌, ◌++◌, length, IsUtf8, encode_utf8, string_bytes}
use Rattle.kp_text.specs.Tokens.{KoreToken, identifier, backslashed, string_token, mark, defined_as, Lexemes, finished, lexeme, broken, broken_string, lexed, between, in_string}
use Rattle.kp_kore.specs.Syntax.{Text}
use Rattle.kp_text.specs.declared.tail.Tail.{Tail}
use Rattle.kp_text.specs.declared.lexer.Token.{Token}
use Rattle.kp_text.specs.declared.lexer.Token.TheVariants as token
use Rattle.kp_text.specs.declared.lexer.Ahead.{Ahead}
use Rattle.kp_text.specs.declared.lexer.Ahead.TheVariants as ahead
use Rattle.kp_text.specs.declared.lexer.Skip.{Skip}
use Rattle.kp_text.specs.declared.lexer.Skip.TheVariants as skip
use Rattle.kp_text.specs.declared.strings.Piece.{Piece}
use Rattle.kp_text.specs.declared.strings.Piece.TheVariants as piece

abbrev pub token_view : Token → KoreToken
token_view (token.Identifier t) = identifier (string_bytes t)
token_view (token.Backslashed t) = backslashed (string_bytes t)
token_view (token.Text t) = string_token (string_bytes t)
token_view (token.Mark c) = mark c
token_view token.DefinedAs = defined_as

-- what stands ahead, and all that comes after it
abbrev pub ahead_view : Tail → Ahead → Lexemes
ahead_view tail ahead.Finished = finished
ahead_view tail (ahead.Token left t rest) = lexeme left (token_view t) (lexed tail rest.now between)
ahead_view tail (ahead.Broken left kind) = broken left kind
ahead_view tail (ahead.BrokenString quote left kind) = broken_string quote left kind

-- what stands behind a comment
abbrev pub skipped : Tail → Skip → Lexemes
skipped tail (skip.To rest) = lexed tail rest.now between
skipped tail (skip.Broken left kind) = broken left kind

-- what stands in a string whose text so far is t
abbrev pub piece_view : Tail → ℕ → Text → Piece → Lexemes
piece_view tail quote t (piece.Character c rest) = lexed tail rest.now (in_string quote (t ++ encode_utf8 c))
piece_view tail quote t (piece.End rest) = lexeme quote (string_token t) (lexed tail rest.now between)
piece_view tail quote t (piece.Broken left kind) = broken_string quote left kind

-- what stands behind what was read is shorter than a text of n bytes
abbrev pub IsPieceWithin : Piece → ℕ → Type 0
IsPieceWithin (piece.Character c rest) n = (length rest.now < n) × IsUtf8 rest.now
IsPieceWithin (piece.End rest) n = (length rest.now < n) × IsUtf8 rest.now
IsPieceWithin (piece.Broken left kind) n = Unit {0}

abbrev pub IsSkipWithin : Skip → ℕ → Type 0
IsSkipWithin (skip.To rest) n = (length rest.now ≤ n) × IsUtf8 rest.now
IsSkipWithin (skip.Broken left kind) n = Unit {0}

abbrev pub IsRestWithin : Ahead → ℕ → Type 0
IsRestWithin ahead.Finished n = Unit {0}
IsRestWithin (ahead.Token left t rest) n = (length rest.now < n) × IsUtf8 rest.now
IsRestWithin (ahead.Broken left kind) n = Unit {0}
IsRestWithin (ahead.BrokenString quote left kind) n = Unit {0}
