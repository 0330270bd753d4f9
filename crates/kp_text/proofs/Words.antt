-- The characters of identifiers, of marks, and between tokens.
use Rattle.std.proofs.Common.{◌≡◌, ℕ, true, false, List, ◌∷◌, [], ◌++◌, length, refl, sym, ap, ◌∙◌}
use Rattle.std.specs.Char.{encode_utf8, is_ascii_alphabetic}
use Rattle.std.proofs.lemmas.Bool.{cases_lt, false≢true}
use Rattle.std.proofs.lemmas.Str.{encode_ascii}
use Rattle.std.proofs.Common.{inl, inr}
use Rattle.kp_kore.specs.Syntax.{Text}
use Rattle.kp_text.specs.Tokens.{between, after_slash, in_identifier, in_backslashed, after_backslash, after_colon, lexed, begun, is_white, is_identifier_byte, lexeme, identifier, backslashed, mark, defined_as, broken}
use Rattle.kp_text.specs.declared.tail.Tail.{Tail}
use Rattle.kp_text.specs.declared.fault.FaultKind.TheVariants as kind
use Rattle.kp_text.proofs.Characters.{further_character, equal, unequal, no_identifier}

-- an identifier's characters are ASCII
one_byte : (c : ℕ) → is_identifier_byte c ≡ true → c ∷ [] ≡ encode_utf8 c
one_byte c h = elim (cases_lt c 128) [
  | inl lt ↦ sym (encode_ascii c lt)
  | inr le ↦ absurd (false≢true (sym (no_identifier c le) ∙ h))
]

begins : (tail : Tail) (text after : List ℕ) (c : ℕ) → text ≡ encode_utf8 c ++ after → lexed tail text between ≡ begun (lexed tail after) c (length text)
begins tail text after c is = further_character tail text after c between (broken (length text) kind.Byte) is refl

pub identifier_goes_on : (tail : Tail) (text after : List ℕ) (c left : ℕ) (t : Text) → text ≡ encode_utf8 c ++ after → is_identifier_byte c ≡ true → lexed tail text (in_identifier left t) ≡ lexed tail after (in_identifier left (t ++ encode_utf8 c))
identifier_goes_on tail text after c left t is h = further_character tail text after c (in_identifier left t) _ is refl ∙ rw h (ap (λ (x : Text). lexed tail after (in_identifier left (t ++ x))) (one_byte c h))

pub identifier_ends : (tail : Tail) (text after : List ℕ) (c left : ℕ) (t : Text) → text ≡ encode_utf8 c ++ after → is_identifier_byte c ≡ false → lexed tail text (in_identifier left t) ≡ lexeme left (identifier t) (lexed tail text between)
identifier_ends tail text after c left t is h = further_character tail text after c (in_identifier left t) _ is refl ∙ rw h (ap (lexeme left (identifier t)) (sym (begins tail text after c is)))

pub backslashed_goes_on : (tail : Tail) (text after : List ℕ) (c left : ℕ) (t : Text) → text ≡ encode_utf8 c ++ after → is_identifier_byte c ≡ true → lexed tail text (in_backslashed left t) ≡ lexed tail after (in_backslashed left (t ++ encode_utf8 c))
backslashed_goes_on tail text after c left t is h = further_character tail text after c (in_backslashed left t) _ is refl ∙ rw h (ap (λ (x : Text). lexed tail after (in_backslashed left (t ++ x))) (one_byte c h))

pub backslashed_ends : (tail : Tail) (text after : List ℕ) (c left : ℕ) (t : Text) → text ≡ encode_utf8 c ++ after → is_identifier_byte c ≡ false → lexed tail text (in_backslashed left t) ≡ lexeme left (backslashed t) (lexed tail text between)
backslashed_ends tail text after c left t is h = further_character tail text after c (in_backslashed left t) _ is refl ∙ rw h (ap (lexeme left (backslashed t)) (sym (begins tail text after c is)))

pub backslash_letter : (tail : Tail) (text after : List ℕ) (c left : ℕ) → text ≡ encode_utf8 c ++ after → is_ascii_alphabetic c ≡ true → lexed tail text (after_backslash left) ≡ lexed tail after (in_backslashed left (c ∷ []))
backslash_letter tail text after c left is h = further_character tail text after c (after_backslash left) _ is refl ∙ rw h refl

pub backslash_stands_alone : (tail : Tail) (text after : List ℕ) (c left : ℕ) → text ≡ encode_utf8 c ++ after → is_ascii_alphabetic c ≡ false → lexed tail text (after_backslash left) ≡ broken left kind.Byte
backslash_stands_alone tail text after c left is h = further_character tail text after c (after_backslash left) _ is refl ∙ rw h refl

pub colon_equals : (tail : Tail) (text after : List ℕ) (c left : ℕ) → text ≡ encode_utf8 c ++ after → c ≡ 61 → lexed tail text (after_colon left) ≡ lexeme left defined_as (lexed tail after between)
colon_equals tail text after c left is h = further_character tail text after c (after_colon left) _ is refl ∙ rw (equal c 61 h) refl

pub colon_stands_alone : (tail : Tail) (text after : List ℕ) (c left : ℕ) → text ≡ encode_utf8 c ++ after → (c ≡ 61 → ⊥) → lexed tail text (after_colon left) ≡ lexeme left (mark 58) (lexed tail text between)
colon_stands_alone tail text after c left is h = further_character tail text after c (after_colon left) _ is refl ∙ rw (unequal c 61 h) (ap (lexeme left (mark 58)) (sym (begins tail text after c is)))

pub blank_goes_on : (tail : Tail) (text after : List ℕ) (c : ℕ) → text ≡ encode_utf8 c ++ after → is_white c ≡ true → lexed tail text between ≡ lexed tail after between
blank_goes_on tail text after c is h = begins tail text after c is ∙ rw h refl

pub slash_begins : (tail : Tail) (text after : List ℕ) (c : ℕ) → text ≡ encode_utf8 c ++ after → c ≡ 47 → lexed tail text between ≡ lexed tail after (after_slash (length text))
slash_begins tail text after c is h = begins tail text after c is ∙ rw h refl

pub token_begins : (tail : Tail) (text after : List ℕ) (c : ℕ) → text ≡ encode_utf8 c ++ after → lexed tail text between ≡ begun (lexed tail after) c (length text)
token_begins = begins
