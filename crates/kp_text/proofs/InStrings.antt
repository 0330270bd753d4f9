-- The characters of strings.
use Rattle.std.proofs.Common.{◌≡◌, ℕ, true, false, eqb, List, ◌++◌, refl, ◌∙◌, arith}
use Rattle.std.specs.Char.{encode_utf8}
use Rattle.kp_kore.specs.Syntax.{Text}
use Rattle.kp_text.specs.Tokens.{between, in_string, after_escape, lexed, escaped_at, lexeme, string_token, broken_string}
use Rattle.kp_text.specs.declared.tail.Tail.{Tail}
use Rattle.kp_text.specs.declared.fault.FaultKind.TheVariants as kind
use Rattle.kp_text.proofs.Characters as characters
use Rattle.kp_text.proofs.Characters.{further_character, string_ascii, string_character}

pub equal : (a b : ℕ) → a ≡ b → eqb a b ≡ true
equal = characters.equal

pub unequal : (a b : ℕ) → (a ≡ b → ⊥) → eqb a b ≡ false
unequal = characters.unequal

pub escape_character : (tail : Tail) (text after : List ℕ) (c quote : ℕ) (t : Text) → text ≡ encode_utf8 c ++ after → lexed tail text (after_escape quote t) ≡ escaped_at (lexed tail after) quote t c
escape_character tail text after c quote t is = further_character tail text after c (after_escape quote t) (broken_string quote quote kind.String) is refl

pub string_ends : (tail : Tail) (text after : List ℕ) (c quote : ℕ) (t : Text) → text ≡ encode_utf8 c ++ after → c ≡ 34 → lexed tail text (in_string quote t) ≡ lexeme quote (string_token t) (lexed tail after between)
string_ends tail text after c quote t is h = string_ascii tail text after c quote t is (omega arith) ∙ rw (equal c 34 h) refl

pub string_escapes : (tail : Tail) (text after : List ℕ) (c quote : ℕ) (t : Text) → text ≡ encode_utf8 c ++ after → c ≡ 92 → lexed tail text (in_string quote t) ≡ lexed tail after (after_escape quote t)
string_escapes tail text after c quote t is h = string_ascii tail text after c quote t is (omega arith) ∙ rw h refl

pub string_breaks : (tail : Tail) (text after : List ℕ) (c quote : ℕ) (t : Text) → text ≡ encode_utf8 c ++ after → c ≡ 10 → lexed tail text (in_string quote t) ≡ broken_string quote quote kind.String
string_breaks tail text after c quote t is h = string_ascii tail text after c quote t is (omega arith) ∙ rw h refl

pub escape_breaks : (tail : Tail) (text after : List ℕ) (c quote : ℕ) (t : Text) → text ≡ encode_utf8 c ++ after → (c ≡ 110 → ⊥) → (c ≡ 114 → ⊥) → (c ≡ 116 → ⊥) → (c ≡ 102 → ⊥) → (c ≡ 34 → ⊥) → (c ≡ 92 → ⊥) → (c ≡ 120 → ⊥) → (c ≡ 117 → ⊥) → (c ≡ 85 → ⊥) → lexed tail text (after_escape quote t) ≡ broken_string quote quote kind.String
escape_breaks tail text after c quote t is h1 h2 h3 h4 h5 h6 h7 h8 h9 = escape_character tail text after c quote t is ∙ rw (unequal c 110 h1, unequal c 114 h2, unequal c 116 h3, unequal c 102 h4, unequal c 34 h5, unequal c 92 h6, unequal c 120 h7, unequal c 117 h8, unequal c 85 h9) refl
