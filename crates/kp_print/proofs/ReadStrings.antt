-- A printed string is read as the string.
use Rattle.std.proofs.Common.{◌≡◌, ℕ, ◌+◌, ◌*◌, ◌-◌, ◌/◌, ◌%◌, ◌≤◌, ◌<◌, Bool, true, false, cond, eqb, List, [], ◌∷◌, ◌++◌, length, refl, sym, ap, subst, ◌∙◌, append_assoc, arith, inl, inr}
use Rattle.std.specs.Prelude.{◌⊎◌, nat_lt, ◌&&◌, ◌||◌, IsUtf8}
use Rattle.std.specs.Char.{encode_utf8, digit_char, is_digit}
use Rattle.std.specs.Str.{chars, all_scalars, encode_utf8_all}
use Rattle.std.proofs.lemmas.Bool.Decides.{nat_tests}
use Rattle.std.proofs.lemmas.Str.{encode_ascii, encodes-chars, scalars-chars, digit_value-digit_char}
use Rattle.std.proofs.lemmas.List.{append-nil}
use Rattle.kp_kore.specs.Syntax.{Text}
use Rattle.kp_text.specs.declared.tail.Tail.TheVariants.{Whole}
use Rattle.kp_text.specs.Tokens.{string_token, between, in_string, in_number, lexeme, lexed}
use Rattle.kp_text.specs.Grammar.{Leveled, at_level}
use Rattle.kp_print.specs.Strings.{two_digits, four_digits, eight_digits, number_text, character_text, characters_text, quoted}
use Rattle.kp_print.proofs.ReadTokens.{Reads, are_ascii, below, ascii_append, token_reads}

-- digits
is_digit_char : (d : ℕ) → d < 16 → is_digit (digit_char d) 16 ≡ true
is_digit_char d h = grind (arith, nat_tests)

digit : (quote : ℕ) (t rest : Text) (more n d : ℕ) → d < 16 → nat_lt 1 more ≡ true → lexed Whole (digit_char d ∷ rest) (in_number quote t more n) ≡ lexed Whole rest (in_number quote t (more - 1) (n * 16 + d))
digit quote t rest more n d small some = rw (is_digit_char d small, some, digit_value-digit_char d (omega arith)) refl

last_digit : (quote : ℕ) (t rest : Text) (n d : ℕ) → d < 16 → all_scalars ((n * 16 + d) ∷ []) ≡ true → lexed Whole (digit_char d ∷ rest) (in_number quote t 1 n) ≡ lexed Whole rest (in_string quote (t ++ encode_utf8 (n * 16 + d)))
last_digit quote t rest n d small scalar = rw (is_digit_char d small, digit_value-digit_char d (omega arith), scalar) refl

joined : (n k : ℕ) → (n * 16 + k / 16) * 16 + k % 16 ≡ n * 256 + k
joined n k = omega arith

two : (quote : ℕ) (t rest : Text) (more n k : ℕ) → k < 256 → nat_lt 1 more ≡ true → nat_lt 1 (more - 1) ≡ true → lexed Whole (two_digits k ++ rest) (in_number quote t more n) ≡ lexed Whole rest (in_number quote t (more - 1 - 1) (n * 256 + k))
two quote t rest more n k small some others =
    digit quote t (digit_char (k % 16) ∷ rest) more n (k / 16) (omega arith) some
    ∙ digit quote t rest (more - 1) (n * 16 + k / 16) (k % 16) (omega arith) others
    ∙ ap (λ (i : ℕ). lexed Whole rest (in_number quote t (more - 1 - 1) i)) (joined n k)

last_two : (quote : ℕ) (t rest : Text) (n k c : ℕ) → k < 256 → n * 256 + k ≡ c → all_scalars (c ∷ []) ≡ true → lexed Whole (two_digits k ++ rest) (in_number quote t 2 n) ≡ lexed Whole rest (in_string quote (t ++ encode_utf8 c))
last_two quote t rest n k c small is scalar =
    let e : (n * 16 + k / 16) * 16 + k % 16 ≡ c = joined n k ∙ is in
    digit quote t (digit_char (k % 16) ∷ rest) 2 n (k / 16) (omega arith) refl
    ∙ last_digit quote t rest (n * 16 + k / 16) (k % 16) (omega arith) (subst (λ (i : ℕ). all_scalars (i ∷ []) ≡ true) (sym e) scalar)
    ∙ ap (λ (i : ℕ). lexed Whole rest (in_string quote (t ++ encode_utf8 i))) e

by_two : (quote : ℕ) (t rest : Text) (c : ℕ) → c < 256 → all_scalars (c ∷ []) ≡ true → lexed Whole (two_digits c ++ rest) (in_number quote t 2 0) ≡ lexed Whole rest (in_string quote (t ++ encode_utf8 c))
by_two quote t rest c small scalar = last_two quote t rest 0 c c small (omega arith) scalar

by_four : (quote : ℕ) (t rest : Text) (c : ℕ) → c < 65536 → all_scalars (c ∷ []) ≡ true → lexed Whole (four_digits c ++ rest) (in_number quote t 4 0) ≡ lexed Whole rest (in_string quote (t ++ encode_utf8 c))
by_four quote t rest c small scalar =
    two quote t (two_digits (c % 256) ++ rest) 4 0 (c / 256) (omega arith) refl refl
    ∙ last_two quote t rest (0 * 256 + c / 256) (c % 256) c (omega arith) (omega arith) scalar

scalar_below : (c : ℕ) → all_scalars (c ∷ []) ≡ true → c < 1114112
scalar_below c h = grind (arith, nat_tests)

by_eight : (quote : ℕ) (t rest : Text) (c : ℕ) → all_scalars (c ∷ []) ≡ true → lexed Whole (eight_digits c ++ rest) (in_number quote t 8 0) ≡ lexed Whole rest (in_string quote (t ++ encode_utf8 c))
by_eight quote t rest c scalar =
    let low = c % 65536 in
    let high = c / 65536 in
    let small : c < 1114112 = scalar_below c scalar in
    two quote t (two_digits (high % 256) ++ (two_digits (low / 256) ++ (two_digits (low % 256) ++ rest))) 8 0 (high / 256) (omega arith) refl refl
    ∙ two quote t (two_digits (low / 256) ++ (two_digits (low % 256) ++ rest)) 6 (0 * 256 + high / 256) (high % 256) (omega arith) refl refl
    ∙ two quote t (two_digits (low % 256) ++ rest) 4 ((0 * 256 + high / 256) * 256 + high % 256) (low / 256) (omega arith) refl refl
    ∙ last_two quote t rest (((0 * 256 + high / 256) * 256 + high % 256) * 256 + low / 256) (low % 256) c (omega arith) (omega arith) scalar

-- a character
pub test : (b : Bool) → (b ≡ true) ⊎ (b ≡ false)
test true = inl refl
test false = inr refl

same : (a b : ℕ) → eqb a b ≡ true → a ≡ b
same a b h = grind (arith, nat_tests)

abbrev Goes : ℕ → Text → Text → ℕ → Text → Type 0
Goes quote t rest c written = lexed Whole (written ++ rest) (in_string quote t) ≡ lexed Whole rest (in_string quote (t ++ encode_utf8 c))

by_number : (quote : ℕ) (t rest : Text) (c : ℕ) → all_scalars (c ∷ []) ≡ true → Goes quote t rest c (number_text c)
by_number quote t rest c scalar = elim (test (nat_lt c 256)) [
  | inl h ↦ rw h (by_two quote t rest c (below c 256 h) scalar)
  | inr h ↦ elim (test (nat_lt c 65536)) [
    | inl k ↦ rw (h, k) (by_four quote t rest c (below c 65536 k) scalar)
    | inr k ↦ rw (h, k) (by_eight quote t rest c scalar)
  ]
]

-- where the written text is found by tests of c
short : (quote : ℕ) (t rest : Text) (c k : ℕ) → eqb c k ≡ true → Goes quote t rest k (character_text k) → Goes quote t rest c (character_text c)
short quote t rest c k h go = subst (λ (i : ℕ). Goes quote t rest i (character_text i)) (sym (same c k h)) go

bare : (quote : ℕ) (t rest : Text) (c : ℕ) → c < 128 → eqb c 34 ≡ false → eqb c 92 ≡ false → eqb c 10 ≡ false → Goes quote t rest c (c ∷ [])
bare quote t rest c h no_quote no_backslash no_line = rw (no_quote, no_backslash, no_line, encode_ascii c h) refl

bare_below : (c : ℕ) → (nat_lt 31 c && nat_lt c 127) ≡ true → c < 128
bare_below c h = grind (arith, nat_tests)

pub character : (quote : ℕ) (t rest : Text) (c : ℕ) → all_scalars (c ∷ []) ≡ true → Goes quote t rest c (character_text c)
unfolding encode_utf8
character quote t rest c scalar = elim (test (eqb c 10)) [
  | inl h ↦ short quote t rest c 10 h refl
  | inr line ↦ elim (test (eqb c 13)) [
    | inl h ↦ short quote t rest c 13 h refl
    | inr return ↦ elim (test (eqb c 9)) [
      | inl h ↦ short quote t rest c 9 h refl
      | inr tab ↦ elim (test (eqb c 12)) [
        | inl h ↦ short quote t rest c 12 h refl
        | inr feed ↦ elim (test (eqb c 34)) [
          | inl h ↦ short quote t rest c 34 h refl
          | inr quoting ↦ elim (test (eqb c 92)) [
            | inl h ↦ short quote t rest c 92 h refl
            | inr backslash ↦ elim (test (nat_lt 31 c && nat_lt c 127)) [
              | inl h ↦ rw (line, return, tab, feed, quoting, backslash, h) (bare quote t rest c (bare_below c h) quoting backslash line)
              | inr h ↦ rw (line, return, tab, feed, quoting, backslash, h) (by_number quote t rest c scalar)
            ]
          ]
        ]
      ]
    ]
  ]
]

-- all characters
pub first_scalar : (c : ℕ) (cs : List ℕ) → all_scalars (c ∷ cs) ≡ true → all_scalars (c ∷ []) ≡ true
first_scalar c cs h = grind arith

pub other_scalars : (c : ℕ) (cs : List ℕ) → all_scalars (c ∷ cs) ≡ true → all_scalars cs ≡ true
other_scalars c cs h = grind arith

pub characters : (cs : List ℕ) (quote : ℕ) (t rest : Text) → all_scalars cs ≡ true → lexed Whole (characters_text cs ++ rest) (in_string quote t) ≡ lexed Whole rest (in_string quote (t ++ encode_utf8_all cs))
characters [] quote t rest h = ap (λ (x : Text). lexed Whole rest (in_string quote x)) (sym (append-nil t))
characters (c ∷ cs) quote t rest h =
    ap (λ (x : Text). lexed Whole x (in_string quote t)) (append_assoc (character_text c) (characters_text cs) rest)
    ∙ character quote t (characters_text cs ++ rest) c (first_scalar c cs h)
    ∙ characters cs quote (t ++ encode_utf8 c) rest (other_scalars c cs h)
    ∙ ap (λ (x : Text). lexed Whole rest (in_string quote x)) (append_assoc t (encode_utf8 c) (encode_utf8_all cs))

quoted_lexed : (t rest : Text) → IsUtf8 t → lexed Whole (quoted t ++ rest) between ≡ lexeme (length (quoted t ++ rest)) (string_token t) (lexed Whole rest between)
quoted_lexed t rest utf8 =
    let cs = chars t in
    let at = length (quoted t ++ rest) in
    ap (λ (x : Text). lexed Whole x (in_string at [])) (append_assoc (characters_text cs) (34 ∷ []) rest)
    ∙ characters cs at [] (34 ∷ rest) (scalars-chars t utf8)
    ∙ ap (λ (x : Text). lexeme at (string_token x) (lexed Whole rest between)) (encodes-chars t utf8)

-- it is ASCII
digit_ascii : (d : ℕ) → d < 16 → nat_lt (digit_char d) 128 ≡ true
digit_ascii d h = grind (arith, nat_tests)

two_ascii : (k : ℕ) → k < 256 → are_ascii (two_digits k) ≡ true
two_ascii k h = rw (digit_ascii (k / 16) (omega arith), digit_ascii (k % 16) (omega arith)) refl

four_ascii : (k : ℕ) → k < 65536 → are_ascii (four_digits k) ≡ true
four_ascii k h = ascii_append (two_digits (k / 256)) (two_digits (k % 256)) (two_ascii (k / 256) (omega arith)) (two_ascii (k % 256) (omega arith))

eight_ascii : (k : ℕ) → k < 1114112 → are_ascii (eight_digits k) ≡ true
eight_ascii k h = ascii_append (four_digits (k / 65536)) (four_digits (k % 65536)) (four_ascii (k / 65536) (omega arith)) (four_ascii (k % 65536) (omega arith))

number_ascii : (c : ℕ) → all_scalars (c ∷ []) ≡ true → are_ascii (number_text c) ≡ true
number_ascii c scalar = elim (test (nat_lt c 256)) [
  | inl h ↦ rw h (two_ascii c (below c 256 h))
  | inr h ↦ elim (test (nat_lt c 65536)) [
    | inl k ↦ rw (h, k) (four_ascii c (below c 65536 k))
    | inr k ↦ rw (h, k) (eight_ascii c (scalar_below c scalar))
  ]
]

either : (t : Bool) (x y : Text) → (t ≡ true → are_ascii x ≡ true) → (t ≡ false → are_ascii y ≡ true) → are_ascii (cond t x y) ≡ true
either true x y first second = first refl
either false x y first second = second refl

quote_or_backslash : (c : ℕ) → ((eqb c 34) || (eqb c 92)) ≡ true → are_ascii (92 ∷ (c ∷ [])) ≡ true
quote_or_backslash c h = rw (small c h) refl
  where
    small : (c : ℕ) → ((eqb c 34) || (eqb c 92)) ≡ true → nat_lt c 128 ≡ true
    small c h = grind (arith, nat_tests)

bare_ascii : (c : ℕ) → (nat_lt 31 c && nat_lt c 127) ≡ true → are_ascii (c ∷ []) ≡ true
bare_ascii c h = rw (small c h) refl
  where
    small : (c : ℕ) → (nat_lt 31 c && nat_lt c 127) ≡ true → nat_lt c 128 ≡ true
    small c h = grind (arith, nat_tests)

character_ascii : (c : ℕ) → all_scalars (c ∷ []) ≡ true → are_ascii (character_text c) ≡ true
character_ascii c scalar =
    either (eqb c 10) _ _ (λ h. refl) (λ h.
    either (eqb c 13) _ _ (λ h. refl) (λ h.
    either (eqb c 9) _ _ (λ h. refl) (λ h.
    either (eqb c 12) _ _ (λ h. refl) (λ h.
    either ((eqb c 34) || (eqb c 92)) _ _ (λ h. quote_or_backslash c h) (λ h.
    either (nat_lt 31 c && nat_lt c 127) _ _ (λ h. bare_ascii c h) (λ h. number_ascii c scalar))))))

characters_ascii : (cs : List ℕ) → all_scalars cs ≡ true → are_ascii (characters_text cs) ≡ true
characters_ascii [] h = refl
characters_ascii (c ∷ cs) h = ascii_append (character_text c) (characters_text cs) (character_ascii c (first_scalar c cs h)) (characters_ascii cs (other_scalars c cs h))

quoted_ascii : (t : Text) → IsUtf8 t → are_ascii (quoted t) ≡ true
quoted_ascii t utf8 = ascii_append (characters_text (chars t)) (34 ∷ []) (characters_ascii (chars t) (scalars-chars t utf8)) refl

pub string_reads : (n : ℕ) (t rest : Text) (ls : List Leveled) → n ≤ 256 → IsUtf8 t → Reads rest ls → Reads (quoted t ++ rest) (at_level n (string_token t) ls)
string_reads n t rest ls small utf8 r = token_reads (quoted t) rest (string_token t) n ls small (quoted_ascii t utf8) (quoted_lexed t rest utf8) r
