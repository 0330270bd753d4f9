-- One character further in a text: its bytes, of which those beyond ASCII begin no token and end no string.
use Rattle.std.proofs.Common.{◌≡◌, ℕ, suc, ◌+◌, ◌/◌, ◌%◌, ◌<◌, ◌≤◌, Bool, true, false, cond, eqb, List, [], ◌∷◌, ◌++◌, length, refl, sym, ap, subst, ◌∙◌, append_assoc, arith, inl, inr}
use Rattle.std.specs.Prelude.{Option, Some, None}
use Rattle.std.specs.Char.{encode_utf8, is_digit, is_ascii_alphabetic}
use Rattle.std.specs.List.{AllByRecursion}
use Rattle.std.proofs.lemmas.Bool.{cases_lt}
use Rattle.std.proofs.lemmas.Bool.Decides.{nat_tests}
use Rattle.std.proofs.lemmas.Str.{encode_ascii}
use Rattle.std.proofs.lemmas.List.{append-nil}
use Rattle.kp_kore.specs.Syntax.{Text}
use Rattle.kp_text.specs.Tokens.{Lexing, between, after_slash, in_line_comment, in_comment, after_star, in_identifier, after_backslash, in_backslashed, after_colon, in_string, after_escape, in_number, Lexemes, lexeme, identifier, backslashed, mark, broken, broken_string, begun, further, lexed, is_identifier_byte}
use Rattle.kp_text.specs.declared.tail.Tail.{Tail}
use Rattle.kp_text.specs.declared.fault.FaultKind.TheVariants as kind

-- bytes beyond ASCII, of which there is one at least
pub record IsWide (bytes : List ℕ) : Type 0 where
  pub first : ℕ
  pub others : List ℕ
  pub is : bytes ≡ first ∷ others
  pub first_wide : 128 ≤ first
  pub others_wide : AllByRecursion (λ b. 128 ≤ b) others

either : (t : Bool) (xs ys : List ℕ) → IsWide xs → IsWide ys → IsWide (cond t xs ys)
either true xs ys x y = x
either false xs ys x y = y

pub wide_character : (c : ℕ) → 128 ≤ c → IsWide (encode_utf8 c)
unfolding encode_utf8
wide_character c h =
    let two : IsWide ((192 + c / 64) ∷ ((128 + c % 64) ∷ [])) = record { first = 192 + c / 64; others = (128 + c % 64) ∷ []; is = refl; first_wide = omega arith; others_wide = (omega arith, tt) } in
    let three : IsWide ((224 + c / 4096) ∷ ((128 + c / 64 % 64) ∷ ((128 + c % 64) ∷ []))) = record { first = 224 + c / 4096; others = (128 + c / 64 % 64) ∷ ((128 + c % 64) ∷ []); is = refl; first_wide = omega arith; others_wide = (omega arith, (omega arith, tt)) } in
    let four : IsWide ((240 + c / 262144) ∷ ((128 + c / 4096 % 64) ∷ ((128 + c / 64 % 64) ∷ ((128 + c % 64) ∷ [])))) = record { first = 240 + c / 262144; others = (128 + c / 4096 % 64) ∷ ((128 + c / 64 % 64) ∷ ((128 + c % 64) ∷ [])); is = refl; first_wide = omega arith; others_wide = (omega arith, (omega arith, (omega arith, tt))) } in
    either _ _ _ (record { first = c; others = []; is = refl; first_wide = h; others_wide = tt }) (either _ _ _ two (either _ _ _ three four))

pub begun_wide : (on : Lexing → Lexemes) (b left : ℕ) → 128 ≤ b → begun on b left ≡ broken left kind.Byte
begun_wide on b left h = grind (arith, nat_tests)

-- where a byte beyond ASCII is a fault, and which
abbrev wide_answer : Lexing → ℕ → Option Lexemes
wide_answer between left = Some (broken left kind.Byte)
wide_answer (after_slash at) left = Some (broken at kind.Byte)
wide_answer in_line_comment left = None
wide_answer in_comment left = None
wide_answer after_star left = None
wide_answer (in_identifier at t) left = Some (lexeme at (identifier t) (broken left kind.Byte))
wide_answer (after_backslash at) left = Some (broken at kind.Byte)
wide_answer (in_backslashed at t) left = Some (lexeme at (backslashed t) (broken left kind.Byte))
wide_answer (after_colon at) left = Some (lexeme at (mark 58) (broken left kind.Byte))
wide_answer (in_string quote t) left = None
wide_answer (after_escape quote t) left = Some (broken_string quote quote kind.String)
wide_answer (in_number quote t more n) left = Some (broken_string quote quote kind.String)

pub no_identifier : (b : ℕ) → 128 ≤ b → is_identifier_byte b ≡ false
no_identifier b h = grind (arith, nat_tests)

no_digit : (b : ℕ) → 128 ≤ b → is_digit b 16 ≡ false
no_digit b h = grind (arith, nat_tests)

pub no_letter : (b : ℕ) → 128 ≤ b → is_ascii_alphabetic b ≡ false
no_letter b h = grind (arith, nat_tests)

other : (b n : ℕ) → n < 128 → 128 ≤ b → eqb b n ≡ false
other b n k h = grind (arith, nat_tests)

further_wide : (on : Lexing → Lexemes) (s : Lexing) (b left : ℕ) (a : Lexemes) → 128 ≤ b → wide_answer s left ≡ Some a → further on s b left ≡ a
further_wide on between b left a h e = rw (begun_wide on b left h) cc
further_wide on (after_slash at) b left a h e = rw (other b 47 (omega arith) h, other b 42 (omega arith) h) cc
further_wide on in_line_comment b left a h e = absurd cc
further_wide on in_comment b left a h e = absurd cc
further_wide on after_star b left a h e = absurd cc
further_wide on (in_identifier at t) b left a h e = rw (no_identifier b h, begun_wide on b left h) cc
further_wide on (after_backslash at) b left a h e = rw (no_letter b h) cc
further_wide on (in_backslashed at t) b left a h e = rw (no_identifier b h, begun_wide on b left h) cc
further_wide on (after_colon at) b left a h e = rw (other b 61 (omega arith) h, begun_wide on b left h) cc
further_wide on (in_string quote t) b left a h e = absurd cc
further_wide on (after_escape quote t) b left a h e = rw (other b 110 (omega arith) h, other b 114 (omega arith) h, other b 116 (omega arith) h, other b 102 (omega arith) h, other b 34 (omega arith) h, other b 92 (omega arith) h, other b 120 (omega arith) h, other b 117 (omega arith) h, other b 85 (omega arith) h) cc
further_wide on (in_number quote t more n) b left a h e = rw (no_digit b h) cc

-- one ASCII character further
ascii_further : (tail : Tail) (text after : List ℕ) (c : ℕ) (s : Lexing) → c < 128 → text ≡ encode_utf8 c ++ after → lexed tail text s ≡ further (lexed tail after) s c (length text)
ascii_further tail text after c s h is =
    let e : text ≡ c ∷ after = is ∙ ap (λ (w : List ℕ). w ++ after) (encode_ascii c h) in
    rw e refl

-- one character further where one beyond ASCII is a fault
pub further_character : (tail : Tail) (text after : List ℕ) (c : ℕ) (s : Lexing) (a : Lexemes) → text ≡ encode_utf8 c ++ after → wide_answer s (length text) ≡ Some a → lexed tail text s ≡ further (lexed tail after) s c (length text)
further_character tail text after c s a is fault = elim (cases_lt c 128) [
  | inl h ↦ ascii_further tail text after c s h is
  | inr h ↦
      let w = wide_character c h in
      let e : text ≡ w.first ∷ (w.others ++ after) = is ∙ ap (λ (x : List ℕ). x ++ after) w.is in
      let there : wide_answer s (suc (length (w.others ++ after))) ≡ Some a = subst (λ (x : List ℕ). wide_answer s (length x) ≡ Some a) e fault in
      let first : lexed tail text s ≡ a = rw e (further_wide (lexed tail (w.others ++ after)) s w.first (suc (length (w.others ++ after))) a w.first_wide there) in
      first ∙ sym (further_wide (lexed tail after) s c (length text) a h fault)
]

-- comments go on at bytes beyond ASCII, and strings take them
wide_line : (tail : Tail) (ws bs : List ℕ) → AllByRecursion (λ b. 128 ≤ b) ws → lexed tail (ws ++ bs) in_line_comment ≡ lexed tail bs in_line_comment
wide_line tail [] bs h = refl
wide_line tail (w ∷ ws) bs h = rw (other w 10 (omega arith) h.0) (wide_line tail ws bs h.1)

wide_comment : (tail : Tail) (ws bs : List ℕ) → AllByRecursion (λ b. 128 ≤ b) ws → lexed tail (ws ++ bs) in_comment ≡ lexed tail bs in_comment
wide_comment tail [] bs h = refl
wide_comment tail (w ∷ ws) bs h = rw (other w 42 (omega arith) h.0) (wide_comment tail ws bs h.1)

wide_string : (tail : Tail) (ws bs : List ℕ) (quote : ℕ) (t : Text) → AllByRecursion (λ b. 128 ≤ b) ws → lexed tail (ws ++ bs) (in_string quote t) ≡ lexed tail bs (in_string quote (t ++ ws))
wide_string tail [] bs quote t h = rw (append-nil t) refl
wide_string tail (w ∷ ws) bs quote t h = rw (other w 34 (omega arith) h.0, other w 92 (omega arith) h.0, other w 10 (omega arith) h.0) (wide_string tail ws bs quote (t ++ w ∷ []) h.1 ∙ ap (λ (x : Text). lexed tail bs (in_string quote x)) (append_assoc t (w ∷ []) ws))

pub line_character : (tail : Tail) (text after : List ℕ) (c : ℕ) → text ≡ encode_utf8 c ++ after → lexed tail text in_line_comment ≡ further (lexed tail after) in_line_comment c (length text)
line_character tail text after c is = elim (cases_lt c 128) [
  | inl h ↦ ascii_further tail text after c in_line_comment h is
  | inr h ↦
      let w = wide_character c h in
      let e : text ≡ w.first ∷ (w.others ++ after) = is ∙ ap (λ (x : List ℕ). x ++ after) w.is in
      rw (e, other w.first 10 (omega arith) w.first_wide, other c 10 (omega arith) h) (wide_line tail w.others after w.others_wide)
]

pub comment_character : (tail : Tail) (text after : List ℕ) (c : ℕ) → text ≡ encode_utf8 c ++ after → lexed tail text in_comment ≡ further (lexed tail after) in_comment c (length text)
comment_character tail text after c is = elim (cases_lt c 128) [
  | inl h ↦ ascii_further tail text after c in_comment h is
  | inr h ↦
      let w = wide_character c h in
      let e : text ≡ w.first ∷ (w.others ++ after) = is ∙ ap (λ (x : List ℕ). x ++ after) w.is in
      rw (e, other w.first 42 (omega arith) w.first_wide, other c 42 (omega arith) h) (wide_comment tail w.others after w.others_wide)
]

pub star_character : (tail : Tail) (text after : List ℕ) (c : ℕ) → text ≡ encode_utf8 c ++ after → lexed tail text after_star ≡ further (lexed tail after) after_star c (length text)
star_character tail text after c is = elim (cases_lt c 128) [
  | inl h ↦ ascii_further tail text after c after_star h is
  | inr h ↦
      let w = wide_character c h in
      let e : text ≡ w.first ∷ (w.others ++ after) = is ∙ ap (λ (x : List ℕ). x ++ after) w.is in
      rw (e, other w.first 47 (omega arith) w.first_wide, other w.first 42 (omega arith) w.first_wide, other c 47 (omega arith) h, other c 42 (omega arith) h) (wide_comment tail w.others after w.others_wide)
]

-- a character of a string that stands for itself
pub string_character : (tail : Tail) (text after : List ℕ) (c quote : ℕ) (t : Text) → text ≡ encode_utf8 c ++ after → eqb c 34 ≡ false → eqb c 92 ≡ false → eqb c 10 ≡ false → lexed tail text (in_string quote t) ≡ lexed tail after (in_string quote (t ++ encode_utf8 c))
string_character tail text after c quote t is no_quote no_backslash no_line = elim (cases_lt c 128) [
  | inl h ↦ ascii_further tail text after c (in_string quote t) h is ∙ rw (no_quote, no_backslash, no_line, encode_ascii c h) refl
  | inr h ↦
      let w = wide_character c h in
      let e : text ≡ w.first ∷ (w.others ++ after) = is ∙ ap (λ (x : List ℕ). x ++ after) w.is in
      let all : AllByRecursion (λ b. 128 ≤ b) (w.first ∷ w.others) = (w.first_wide, w.others_wide) in
      rw e (wide_string tail (w.first ∷ w.others) after quote t all ∙ ap (λ (x : List ℕ). lexed tail after (in_string quote (t ++ x))) (sym w.is))
]

-- a character of a string that ends it or is an escape or a fault
pub string_ascii : (tail : Tail) (text after : List ℕ) (c quote : ℕ) (t : Text) → text ≡ encode_utf8 c ++ after → c < 128 → lexed tail text (in_string quote t) ≡ further (lexed tail after) (in_string quote t) c (length text)
string_ascii tail text after c quote t is h = ascii_further tail text after c (in_string quote t) h is

-- the tests of the code, and what follows
pub unequal : (a b : ℕ) → (a ≡ b → ⊥) → eqb a b ≡ false
unequal a b h = grind (arith, nat_tests)

pub equal : (a b : ℕ) → a ≡ b → eqb a b ≡ true
equal a b h = grind (arith, nat_tests)

pub line_goes_on : (tail : Tail) (text after : List ℕ) (c : ℕ) → text ≡ encode_utf8 c ++ after → (c ≡ 10 → ⊥) → lexed tail text in_line_comment ≡ lexed tail after in_line_comment
line_goes_on tail text after c is h = rw (unequal c 10 h) at (line_character tail text after c is)

pub line_ends : (tail : Tail) (text after : List ℕ) (c : ℕ) → text ≡ encode_utf8 c ++ after → c ≡ 10 → lexed tail text in_line_comment ≡ lexed tail after between
line_ends tail text after c is h = rw (equal c 10 h) at (line_character tail text after c is)

pub string_goes_on : (tail : Tail) (text after : List ℕ) (c quote : ℕ) (t : Text) → text ≡ encode_utf8 c ++ after → (c ≡ 34 → ⊥) → (c ≡ 92 → ⊥) → (c ≡ 10 → ⊥) → lexed tail text (in_string quote t) ≡ lexed tail after (in_string quote (t ++ encode_utf8 c))
string_goes_on tail text after c quote t is h k l = string_character tail text after c quote t is (unequal c 34 h) (unequal c 92 k) (unequal c 10 l)
