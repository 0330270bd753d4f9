-- The characters of comments.
use Rattle.std.proofs.Common.{◌≡◌, ℕ, Bool, true, false, cond, eqb, List, ◌++◌, refl, ◌∙◌}
use Rattle.std.specs.Char.{encode_utf8}
use Rattle.kp_text.specs.Tokens.{Lexing, between, in_line_comment, in_comment, after_star, after_slash, lexed, broken}
use Rattle.kp_text.specs.declared.tail.Tail.{Tail}
use Rattle.kp_text.specs.declared.fault.FaultKind.TheVariants as kind
use Rattle.kp_text.proofs.Characters.{further_character, comment_character, star_character, equal, unequal}

abbrev pub comment_state : Bool → Lexing
comment_state true = after_star
comment_state false = in_comment

pub comment_ends : (tail : Tail) (text after : List ℕ) (c : ℕ) (starred : Bool) → text ≡ encode_utf8 c ++ after → starred ≡ true → c ≡ 47 → lexed tail text (comment_state starred) ≡ lexed tail after between
comment_ends tail text after c starred is s h = rw s (rw (equal c 47 h) at (star_character tail text after c is))

after_is : (tail : Tail) (after : List ℕ) (b : Bool) → cond b (lexed tail after after_star) (lexed tail after in_comment) ≡ lexed tail after (comment_state b)
after_is tail after true = refl
after_is tail after false = refl

pub comment_goes_on : (tail : Tail) (text after : List ℕ) (c : ℕ) (starred : Bool) → text ≡ encode_utf8 c ++ after → (starred ≡ true → c ≡ 47 → ⊥) → lexed tail text (comment_state starred) ≡ lexed tail after (comment_state (eqb c 42))
comment_goes_on tail text after c true is h = rw (unequal c 47 (h refl)) at (star_character tail text after c is) ∙ after_is tail after (eqb c 42)
comment_goes_on tail text after c false is h = comment_character tail text after c is ∙ after_is tail after (eqb c 42)

pub slash_character : (tail : Tail) (text after : List ℕ) (c left : ℕ) → text ≡ encode_utf8 c ++ after → lexed tail text (after_slash left) ≡ cond (eqb c 47) (lexed tail after in_line_comment) (cond (eqb c 42) (lexed tail after in_comment) (broken left kind.Byte))
slash_character tail text after c left is = further_character tail text after c (after_slash left) (broken left kind.Byte) is refl

pub slash_stands_alone : (tail : Tail) (text after : List ℕ) (c left : ℕ) → text ≡ encode_utf8 c ++ after → (c ≡ 47 → ⊥) → (c ≡ 42 → ⊥) → lexed tail text (after_slash left) ≡ broken left kind.Byte
slash_stands_alone tail text after c left is h k = rw (unequal c 47 h, unequal c 42 k) at (slash_character tail text after c left is)
