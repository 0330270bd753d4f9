-- The tokens of a text: an identifier is a letter and what may follow it, and a string is UTF-8.
use Rattle.std.proofs.Common.{◌≡◌, ℕ, ◌+◌, ◌*◌, ◌-◌, ◌<◌, ◌≤◌, Bool, true, false, cond, eqb, List, [], ◌∷◌, ◌++◌, refl, sym, ap, subst, arith, inl, inr}
use Rattle.std.specs.Prelude.{Option, Some, None, option_map, nat_lt, ◌||◌, IsUtf8}
use Rattle.std.specs.Char.{encode_utf8, is_ascii_alphabetic, is_digit, digit_value}
use Rattle.std.specs.Str.{all_scalars, encode_utf8_all}
use Rattle.std.specs.List.{AllByRecursion}
use Rattle.std.proofs.lemmas.Bool.{cases_lt}
use Rattle.std.proofs.lemmas.Bool.Decides.{nat_tests}
use Rattle.std.proofs.lemmas.Str.{encode_ascii, IsUtf8-append, IsUtf8-nil}
use Rattle.std.proofs.lemmas.List.{append-nil}
use Rattle.kp_kore.specs.Syntax.{Text}
use Rattle.kp_text.specs.declared.tail.Tail.{Tail}
use Rattle.kp_text.specs.declared.tail.Tail.TheVariants.{Whole, Bad, Cut}
use Rattle.kp_text.specs.Tokens.{KoreToken, identifier, backslashed, string_token, mark, defined_as, Lexemes, finished, lexeme, broken, broken_string, Lexing, between, after_slash, in_line_comment, in_comment, after_star, in_identifier, after_backslash, in_backslashed, after_colon, in_string, after_escape, in_number, is_white, is_mark, is_identifier_byte, begun, in_string_at, escaped_at, digit_at, tail_between, tail_in_line, tail_after, at_tail, lexed, utf8_front, utf8_tail, lexemes}
use Rattle.kp_text.specs.Grammar.{Leveled}
use Rattle.kp_text.specs.Spelling.{token_list, tokens_of, IsShallow, HasTokens}
use Rattle.kp_text.proofs.Characters.{further_character, line_character, comment_character, star_character, string_goes_on, string_ascii}
use Rattle.kp_print.proofs.ReadStrings.{first_scalar, other_scalars}
use Rattle.kp_print.proofs.ReadTokens.{IsName}

abbrev pub IsToken : KoreToken → Type 0
IsToken (identifier t) = IsName t
IsToken (backslashed t) = Unit
IsToken (string_token t) = IsUtf8 t
IsToken (mark n) = Unit
IsToken defined_as = Unit

abbrev AreTokens : Lexemes → Type 0
AreTokens finished = Unit
AreTokens (lexeme at t rest) = IsToken t × AreTokens rest
AreTokens (broken at k) = Unit
AreTokens (broken_string quote at k) = Unit

-- the same of what was read of a token
abbrev IsPart : Lexing → Type 0
IsPart between = Unit
IsPart (after_slash at) = Unit
IsPart in_line_comment = Unit
IsPart in_comment = Unit
IsPart after_star = Unit
IsPart (in_identifier at t) = IsName t
IsPart (after_backslash at) = Unit
IsPart (in_backslashed at t) = Unit
IsPart (after_colon at) = Unit
IsPart (in_string quote t) = IsUtf8 t
IsPart (after_escape quote t) = IsUtf8 t
IsPart (in_number quote t more n) = IsUtf8 t

-- names and strings grow
one_letter : (b : ℕ) → is_ascii_alphabetic b ≡ true → IsName (b ∷ [])
one_letter b h = record { first = b; others = []; is = refl; letter = h; more = tt }

all_push : (bs : List ℕ) (b : ℕ) → AllByRecursion (λ c. is_identifier_byte c ≡ true) bs → is_identifier_byte b ≡ true → AllByRecursion (λ c. is_identifier_byte c ≡ true) (bs ++ b ∷ [])
all_push [] b all h = (h, tt)
all_push (c ∷ bs) b all h = (all.0, all_push bs b all.1 h)

longer_name : (t : Text) (b : ℕ) → IsName t → is_identifier_byte b ≡ true → IsName (t ++ b ∷ [])
longer_name t b n h = record { first = n.first; others = n.others ++ b ∷ []; is = ap (λ (x : Text). x ++ b ∷ []) n.is; letter = n.letter; more = all_push n.others b n.more h }

utf8_character : (c : ℕ) → all_scalars (c ∷ []) ≡ true → IsUtf8 (encode_utf8 c)
utf8_character c h = (c ∷ [], (h, append-nil (encode_utf8 c)))

longer_string : (t : Text) (c : ℕ) → IsUtf8 t → all_scalars (c ∷ []) ≡ true → IsUtf8 (t ++ encode_utf8 c)
longer_string t c u h = IsUtf8-append t (encode_utf8 c) u (utf8_character c h)

ascii_scalar : (c : ℕ) → c < 128 → all_scalars (c ∷ []) ≡ true
ascii_scalar c h = grind (arith, nat_tests)

longer_by_ascii : (t : Text) (c : ℕ) → c < 128 → IsUtf8 t → IsUtf8 (t ++ c ∷ [])
longer_by_ascii t c h u = subst (λ (x : Text). IsUtf8 (t ++ x)) (encode_ascii c h) (longer_string t c u (ascii_scalar c h))

quote_or_backslash : (b : ℕ) → ((eqb b 34) || (eqb b 92)) ≡ true → b < 128
quote_or_backslash b h = grind (arith, nat_tests)

-- where a test decides
by_test : (t : Bool) (x y : Lexemes) → (t ≡ true → AreTokens x) → (t ≡ false → AreTokens y) → AreTokens (cond t x y)
by_test true x y first second = first refl
by_test false x y first second = second refl

abbrev GoesOn : (Lexing → Lexemes) → Type 0
GoesOn on = (s : Lexing) → IsPart s → AreTokens (on s)

begun_tokens : (on : Lexing → Lexemes) (b left : ℕ) → GoesOn on → AreTokens (begun on b left)
begun_tokens on b left go =
    by_test (is_white b) _ _ (λ h. go between tt) (λ h.
    by_test (is_ascii_alphabetic b) _ _ (λ h. go (in_identifier left (b ∷ [])) (one_letter b h)) (λ h.
    by_test (is_mark b) _ _ (λ h. (tt, go between tt)) (λ h.
    by_test (eqb b 58) _ _ (λ h. go (after_colon left) tt) (λ h.
    by_test (eqb b 92) _ _ (λ h. go (after_backslash left) tt) (λ h.
    by_test (eqb b 34) _ _ (λ h. go (in_string left []) IsUtf8-nil) (λ h.
    by_test (eqb b 47) _ _ (λ h. go (after_slash left) tt) (λ h. tt)))))))

string_tokens : (on : Lexing → Lexemes) (quote : ℕ) (t : Text) (b : ℕ) → GoesOn on → IsUtf8 t → b < 128 → AreTokens (in_string_at on quote t b)
string_tokens on quote t b go u small =
    by_test (eqb b 34) _ _ (λ h. (u, go between tt)) (λ h.
    by_test (eqb b 92) _ _ (λ h. go (after_escape quote t) u) (λ h.
    by_test (eqb b 10) _ _ (λ h. tt) (λ h. go (in_string quote (t ++ b ∷ [])) (longer_by_ascii t b small u))))

escape_tokens : (on : Lexing → Lexemes) (quote : ℕ) (t : Text) (b : ℕ) → GoesOn on → IsUtf8 t → AreTokens (escaped_at on quote t b)
escape_tokens on quote t b go u =
    by_test (eqb b 110) _ _ (λ h. go (in_string quote (t ++ 10 ∷ [])) (longer_by_ascii t 10 (omega arith) u)) (λ h.
    by_test (eqb b 114) _ _ (λ h. go (in_string quote (t ++ 13 ∷ [])) (longer_by_ascii t 13 (omega arith) u)) (λ h.
    by_test (eqb b 116) _ _ (λ h. go (in_string quote (t ++ 9 ∷ [])) (longer_by_ascii t 9 (omega arith) u)) (λ h.
    by_test (eqb b 102) _ _ (λ h. go (in_string quote (t ++ 12 ∷ [])) (longer_by_ascii t 12 (omega arith) u)) (λ h.
    by_test ((eqb b 34) || (eqb b 92)) _ _ (λ h. go (in_string quote (t ++ b ∷ [])) (longer_by_ascii t b (quote_or_backslash b h) u)) (λ h.
    by_test (eqb b 120) _ _ (λ h. go (in_number quote t 2 0) u) (λ h.
    by_test (eqb b 117) _ _ (λ h. go (in_number quote t 4 0) u) (λ h.
    by_test (eqb b 85) _ _ (λ h. go (in_number quote t 8 0) u) (λ h. tt))))))))

number_tokens : (on : Lexing → Lexemes) (quote : ℕ) (t : Text) (more n b : ℕ) → GoesOn on → IsUtf8 t → AreTokens (digit_at on quote t more n b)
number_tokens on quote t more n b go u =
    by_test (is_digit b 16) _ _ (λ h.
    by_test (nat_lt 1 more) _ _ (λ h. go (in_number quote t (more - 1) (n * 16 + digit_value b)) u) (λ h.
    by_test (all_scalars ((n * 16 + digit_value b) ∷ [])) _ _ (λ h. go (in_string quote (t ++ encode_utf8 (n * 16 + digit_value b))) (longer_string t (n * 16 + digit_value b) u h)) (λ h. tt))) (λ h. tt)

-- one character further
step : (tail : Tail) (after : List ℕ) (c : ℕ) (s : Lexing) → all_scalars (c ∷ []) ≡ true → GoesOn (lexed tail after) → IsPart s → AreTokens (lexed tail (encode_utf8 c ++ after) s)
step tail after c between scalar go part = subst AreTokens (sym (further_character tail (encode_utf8 c ++ after) after c between _ refl refl)) (begun_tokens (lexed tail after) c _ go)
step tail after c (after_slash at) scalar go part = subst AreTokens (sym (further_character tail (encode_utf8 c ++ after) after c (after_slash at) _ refl refl))
    (by_test (eqb c 47) _ _ (λ h. go in_line_comment tt) (λ h. by_test (eqb c 42) _ _ (λ h. go in_comment tt) (λ h. tt)))
step tail after c in_line_comment scalar go part = subst AreTokens (sym (line_character tail (encode_utf8 c ++ after) after c refl))
    (by_test (eqb c 10) _ _ (λ h. go between tt) (λ h. go in_line_comment tt))
step tail after c in_comment scalar go part = subst AreTokens (sym (comment_character tail (encode_utf8 c ++ after) after c refl))
    (by_test (eqb c 42) _ _ (λ h. go after_star tt) (λ h. go in_comment tt))
step tail after c after_star scalar go part = subst AreTokens (sym (star_character tail (encode_utf8 c ++ after) after c refl))
    (by_test (eqb c 47) _ _ (λ h. go between tt) (λ h. by_test (eqb c 42) _ _ (λ h. go after_star tt) (λ h. go in_comment tt)))
step tail after c (in_identifier at t) scalar go part = subst AreTokens (sym (further_character tail (encode_utf8 c ++ after) after c (in_identifier at t) _ refl refl))
    (by_test (is_identifier_byte c) _ _ (λ h. go (in_identifier at (t ++ c ∷ [])) (longer_name t c part h)) (λ h. (part, begun_tokens (lexed tail after) c _ go)))
step tail after c (after_backslash at) scalar go part = subst AreTokens (sym (further_character tail (encode_utf8 c ++ after) after c (after_backslash at) _ refl refl))
    (by_test (is_ascii_alphabetic c) _ _ (λ h. go (in_backslashed at (c ∷ [])) tt) (λ h. tt))
step tail after c (in_backslashed at t) scalar go part = subst AreTokens (sym (further_character tail (encode_utf8 c ++ after) after c (in_backslashed at t) _ refl refl))
    (by_test (is_identifier_byte c) _ _ (λ h. go (in_backslashed at (t ++ c ∷ [])) tt) (λ h. (tt, begun_tokens (lexed tail after) c _ go)))
step tail after c (after_colon at) scalar go part = subst AreTokens (sym (further_character tail (encode_utf8 c ++ after) after c (after_colon at) _ refl refl))
    (by_test (eqb c 61) _ _ (λ h. (tt, go between tt)) (λ h. (tt, begun_tokens (lexed tail after) c _ go)))
step tail after c (in_string quote t) scalar go part = elim (cases_lt c 128) [
  | inl h ↦ subst AreTokens (sym (string_ascii tail (encode_utf8 c ++ after) after c quote t refl h)) (string_tokens (lexed tail after) quote t c go part h)
  | inr h ↦ subst AreTokens (sym (string_goes_on tail (encode_utf8 c ++ after) after c quote t refl (λ e. omega arith) (λ e. omega arith) (λ e. omega arith))) (go (in_string quote (t ++ encode_utf8 c)) (longer_string t c part scalar))
]
step tail after c (after_escape quote t) scalar go part = subst AreTokens (sym (further_character tail (encode_utf8 c ++ after) after c (after_escape quote t) _ refl refl)) (escape_tokens (lexed tail after) quote t c go part)
step tail after c (in_number quote t more n) scalar go part = subst AreTokens (sym (further_character tail (encode_utf8 c ++ after) after c (in_number quote t more n) _ refl refl)) (number_tokens (lexed tail after) quote t more n c go part)

-- the end
no_token : (tail : Tail) → AreTokens (tail_between tail)
no_token Whole = tt
no_token Bad = tt
no_token Cut = tt

ended : (tail : Tail) (s : Lexing) → IsPart s → AreTokens (at_tail tail s)
ended tail between part = no_token tail
ended tail (after_slash at) part = alone tail
  where
    alone : (tail : Tail) → AreTokens (tail_after tail at)
    alone Whole = tt
    alone Bad = tt
    alone Cut = tt
ended tail in_line_comment part = in_line tail
  where
    in_line : (tail : Tail) → AreTokens (tail_in_line tail)
    in_line Whole = tt
    in_line Bad = tt
    in_line Cut = tt
ended tail in_comment part = tt
ended tail after_star part = tt
ended tail (in_identifier at t) part = (part, no_token tail)
ended tail (after_backslash at) part = alone tail
  where
    alone : (tail : Tail) → AreTokens (tail_after tail at)
    alone Whole = tt
    alone Bad = tt
    alone Cut = tt
ended tail (in_backslashed at t) part = (tt, no_token tail)
ended tail (after_colon at) part = (tt, no_token tail)
ended tail (in_string quote t) part = tt
ended tail (after_escape quote t) part = tt
ended tail (in_number quote t more n) part = tt

characters_tokens : (cs : List ℕ) (tail : Tail) → all_scalars cs ≡ true → GoesOn (lexed tail (encode_utf8_all cs))
characters_tokens [] tail h s part = ended tail s part
characters_tokens (c ∷ cs) tail h s part = step tail (encode_utf8_all cs) c s (first_scalar c cs h) (characters_tokens cs tail (other_scalars c cs h)) part

text_tokens : (bytes : List ℕ) (tail : Tail) → IsUtf8 bytes → AreTokens (lexed tail bytes between)
text_tokens bytes tail u = subst (λ (bs : List ℕ). AreTokens (lexed tail bs between)) u.1.1 (characters_tokens u.0 tail u.1.0 between tt)

-- each token of a text that has these
pub record IsFine (l : Leveled) : Type 0 where
  pub token : IsToken l.token
  pub level : l.level ≤ 256

abbrev pub AreFine : List Leveled → Type 0
AreFine ls = AllByRecursion IsFine ls

cons_parts : (o : Option (List KoreToken)) (t u : KoreToken) (us : List KoreToken) → option_map (λ ts. t ∷ ts) o ≡ Some (u ∷ us) → (t ≡ u) × (o ≡ Some us)
cons_parts None t u us e = absurd (cc)
cons_parts (Some ts) t u us e = (cc, cc)

not_none : (o : Option (List KoreToken)) (t : KoreToken) → option_map (λ ts. t ∷ ts) o ≡ Some [] → ⊥
not_none None t e = cc
not_none (Some ts) t e = cc

listed : (x : Lexemes) (ls : List Leveled) → AreTokens x → token_list x ≡ Some (tokens_of ls) → IsShallow ls → AreFine ls
listed finished [] are e small = tt
listed finished (l ∷ ls) are e small = absurd (cc)
listed (lexeme at t rest) [] are e small = tt
listed (lexeme at t rest) (l ∷ ls) are e small =
    let p = cons_parts (token_list rest) t l.token (tokens_of ls) e in
    (record { token = subst IsToken p.0 are.0; level = small.0 }, listed rest ls are.1 p.1 small.1)
listed (broken at k) ls are e small = absurd (cc)
listed (broken_string quote at k) ls are e small = absurd (cc)

pub text_fine : (bytes : List ℕ) (ls : List Leveled) → IsUtf8 (utf8_front bytes) → HasTokens bytes ls → AreFine ls
text_fine bytes ls u has = listed (lexemes bytes) ls (text_tokens (utf8_front bytes) (utf8_tail bytes) u) has.tokens has.shallow
