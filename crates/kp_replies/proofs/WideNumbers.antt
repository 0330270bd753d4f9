-- What is read of a text with a number of any size: a number that isn't one of JSON, as of digits behind a zero, ends it.
use Rattle.std.proofs.Common.{◌≡◌, ℕ, zero, suc, ◌+◌, ◌<◌, ◌≤◌, ◌/◌, ◌%◌, Bool, true, false, cond, ◌&&◌, ◌||◌, ◌==◌, List, [], ◌∷◌, ◌++◌, length, Option, Some, None, option_and_then, decimal, refl, sym, ap, ap₂, ◌∙◌, subst, arith, append_assoc, append-nil, inl, inr, ◌⊎◌}
use Rattle.std.proofs.lemmas.Bool.{ne_eqb, eqb-true, leb-true, and_from, and_parts}
use Rattle.std.proofs.lemmas.Bool.Decides.{nat_tests}
use Rattle.std.proofs.lemmas.List.{drop_all}
use Rattle.std.specs.List.{list_all, prefix_len}
use Rattle.std.specs.Char.{is_ascii_digit}
use Rattle.std.specs.Fmt.{digits, digits_onto, digit_glyph}
use Rattle.json.specs.Lex.{Lexeme, token, comma, colon, string_token, lex, between, in_word, tokens}
use Rattle.json.specs.Json as json
use Rattle.json.specs.Print.{IsNumber, escape, quoted, token_text, begins, ends, print_from, print, IsPrintable, ArePrintable}
use Rattle.json.specs.Token.{Token, begin_object, end_object, begin_array, end_array, key, string, number, boolean, null, bad}
use Rattle.json.specs.Tree as tree
use Rattle.json.specs.Tree.{json_tokens, HasNumbers}
use Rattle.json.specs.Word.{is_operator, is_space, ends_word, after_number, word}
use Rattle.json.proofs.Found.{one_reading}
use Rattle.json.proofs.Printed.Numbers.{lex-number, in_word-ended}
use Rattle.json.proofs.Printed.Strings.{content-escape, lex-escape}
use Rattle.json.proofs.Printed.Tokens.{tokens-print}
use Rattle.json.proofs.Printed.Trees.{value-json_tokens, ArePrintable-json_tokens}
use Rattle.serde_json.specs.Data.{Data}
use Rattle.serde_json.specs.Read.{read, max_depth, of_json}
use Rattle.serde_json.specs.Written.{outline, compact_text}
use Rattle.serde_json.proofs.Texts.{print-outline}

-- ---- what is written of a number

-- one digit or more
abbrev IsDigits : List ℕ → Type 0
IsDigits [] = ⊥
IsDigits (c ∷ cs) = list_all is_ascii_digit (c ∷ cs) ≡ true

glyph_is_digit : (d : ℕ) → d < 10 → is_ascii_digit (digit_glyph false d) ≡ true
glyph_is_digit d h = grind (arith, nat_tests)

one_more : (n : ℕ) (acc : List ℕ) → list_all is_ascii_digit acc ≡ true → list_all is_ascii_digit (digit_glyph false (n % 10) ∷ acc) ≡ true
one_more n acc h = and_from _ _ (glyph_is_digit (n % 10) (omega arith)) h

chosen : (b : Bool) (x y : List ℕ) → IsDigits x → IsDigits y → IsDigits (cond b x y)
chosen true x y h k = h
chosen false x y h k = k

onto_digits : (k n : ℕ) (acc : List ℕ) → list_all is_ascii_digit acc ≡ true → IsDigits (digits_onto (suc k) 10 false n acc)
onto_digits zero n acc h = let d = one_more n acc h in chosen (n / 10 == 0) _ _ d d
onto_digits (suc k) n acc h = let d = one_more n acc h in chosen (n / 10 == 0) _ _ d (onto_digits k (n / 10) (digit_glyph false (n % 10) ∷ acc) d)

decimal_digits : (n : ℕ) → IsDigits (decimal n)
unfolding digits
decimal_digits n = onto_digits 63 n [] refl

-- ---- whether it is one of JSON

-- a digit behind a zero
pub record IsWide (s : List ℕ) : Type 0 where
  second : ℕ
  others : List ℕ
  is : s ≡ 48 ∷ second ∷ others
  digit : is_ascii_digit second ≡ true

digits_counted : (ds : List ℕ) → list_all is_ascii_digit ds ≡ true → prefix_len is_ascii_digit ds ≡ length ds
digits_counted [] h = refl
digits_counted (d ∷ ds) h =
    let parts = and_parts (is_ascii_digit d) (list_all is_ascii_digit ds) h in
    ap (λ b. cond b (1 + prefix_len is_ascii_digit ds) 0) parts.0 ∙ omega (arith, digits_counted ds parts.1)

-- not behind a zero
plain_number : (c : ℕ) (cs : List ℕ) → (c == 48) ≡ false → list_all is_ascii_digit (c ∷ cs) ≡ true → IsNumber (c ∷ cs)
unfolding after_number
plain_number c cs some all =
    let first = and_parts (is_ascii_digit c) (list_all is_ascii_digit cs) all in
    let low : 48 ≤ c = leb-true 48 c (and_parts _ _ first.0).0 in
    let count : prefix_len is_ascii_digit (c ∷ cs) ≡ suc (length cs) = digits_counted (c ∷ cs) all in
    rw (ne_eqb c 45 (λ e. omega arith), some, count, ne_eqb (suc (length cs)) 0 (λ e. omega arith), drop_all (suc (length cs)) (c ∷ cs) (omega arith)) refl

zero_number : IsNumber (48 ∷ [])
unfolding after_number
zero_number = refl

number_or_wide : (s : List ℕ) → IsDigits s → IsNumber s ⊎ IsWide s
number_or_wide [] h = absurd h
number_or_wide (c ∷ cs) h = by (c == 48) refl cs h
  where
    by : (b : Bool) → (c == 48) ≡ b → (ds : List ℕ) → list_all is_ascii_digit (c ∷ ds) ≡ true → IsNumber (c ∷ ds) ⊎ IsWide (c ∷ ds)
    by false is ds all = inl (plain_number c ds is all)
    by true is [] all = inl (subst (λ x. IsNumber (x ∷ [])) (sym (eqb-true c 48 is)) zero_number)
    by true is (d ∷ ds) all =
        let rest = and_parts (is_ascii_digit c) (list_all is_ascii_digit (d ∷ ds)) all in
        inr (record { second = d; others = ds; is = ap (λ x. x ∷ d ∷ ds) (eqb-true c 48 is); digit = (and_parts (is_ascii_digit d) (list_all is_ascii_digit ds) rest.1).0 })

pub decimal_kinds : (n : ℕ) → IsNumber (decimal n) ⊎ IsWide (decimal n)
decimal_kinds n = number_or_wide (decimal n) (decimal_digits n)

-- ---- a word that is no number

no_mark : (d : ℕ) → is_ascii_digit d ≡ true → ((d == 46) ≡ false) × (((d == 101) || (d == 69)) ≡ false) × ((is_operator d || is_space d) ≡ false)
no_mark d h = (grind (arith, nat_tests), grind (arith, nat_tests), grind (arith, nat_tests))

lex_wide : (s r : List ℕ) → IsWide s → (ls : List Lexeme) × (lex between (s ++ r) ≡ token bad ∷ ls)
unfolding lex word after_number
lex_wide s r w =
    let m = no_mark w.second w.digit in
    let read : word (48 ∷ w.second ∷ (w.others ++ r)) ≡ bad = rw (m.0, m.1, m.2) refl in
    let after = lex in_word (w.second ∷ (w.others ++ r)) in
    (after, ap (λ l. lex between (l ++ r)) w.is ∙ ap (λ t. token t ∷ after) read)

-- ---- the tokens before it

abbrev token_lexemes : Token → List Lexeme
token_lexemes begin_object = token begin_object ∷ []
token_lexemes end_object = token end_object ∷ []
token_lexemes begin_array = token begin_array ∷ []
token_lexemes end_array = token end_array ∷ []
token_lexemes (key s) = token (string s) ∷ colon ∷ []
token_lexemes (string s) = token (string s) ∷ []
token_lexemes (number s) = token (number s) ∷ []
token_lexemes (boolean b) = token (boolean b) ∷ []
token_lexemes null = token null ∷ []
token_lexemes bad = []

abbrev pub lexemes : Bool → List Token → List Lexeme
lexemes c [] = []
lexemes c (t ∷ ts) = cond (c && begins t) (comma ∷ []) [] ++ (token_lexemes t ++ lexemes (ends t) ts)

-- whether the last of these tokens ends a value
abbrev pub ended : Bool → List Token → Bool
ended c [] = c
ended c (t ∷ ts) = ended (ends t) ts

after_value_ends : (ts : List Token) → ends_word (print_from true ts) ≡ true
unfolding print_from
after_value_ends [] = refl
after_value_ends (begin_object ∷ ts) = refl
after_value_ends (end_object ∷ ts) = refl
after_value_ends (begin_array ∷ ts) = refl
after_value_ends (end_array ∷ ts) = refl
after_value_ends (key s ∷ ts) = refl
after_value_ends (string s ∷ ts) = refl
after_value_ends (number s ∷ ts) = refl
after_value_ends (boolean b ∷ ts) = refl
after_value_ends (null ∷ ts) = refl
after_value_ends (bad ∷ ts) = refl

lex_quoted : (s r : List ℕ) → lex between (quoted s ++ r) ≡ token (string s) ∷ lex between r
unfolding lex
lex_quoted s r =
    let e = append_assoc (escape s) (34 ∷ []) r in
    ap (λ l. lex between (34 ∷ l)) e ∙ ap₂ (λ o l. token (string_token o) ∷ l) (content-escape s r) (lex-escape s r)

lex_token : (t : Token) (r : List ℕ) → IsPrintable t → (ends t ≡ true → ends_word r ≡ true) → lex between (token_text t ++ r) ≡ token_lexemes t ++ lex between r
unfolding lex word
lex_token begin_object r h ended = refl
lex_token end_object r h ended = refl
lex_token begin_array r h ended = refl
lex_token end_array r h ended = refl
lex_token (key s) r h ended = ap (lex between) (append_assoc (quoted s) (58 ∷ []) r) ∙ lex_quoted s (58 ∷ r)
lex_token (string s) r h ended = lex_quoted s r
lex_token (number s) r h ended = lex-number s r h (ended refl)
lex_token (boolean true) r h ended = ap₂ (λ b l. token (cond b (boolean true) bad) ∷ l) (ended refl) (in_word-ended r (ended refl))
lex_token (boolean false) r h ended = ap₂ (λ b l. token (cond b (boolean false) bad) ∷ l) (ended refl) (in_word-ended r (ended refl))
lex_token null r h ended = ap₂ (λ b l. token (cond b null bad) ∷ l) (ended refl) (in_word-ended r (ended refl))
lex_token bad r h ended = absurd h

lex_separator : (b : Bool) (r : List ℕ) → lex between (cond b (44 ∷ []) [] ++ r) ≡ cond b (comma ∷ []) [] ++ lex between r
unfolding lex
lex_separator true r = refl
lex_separator false r = refl

append_again : (xs ys zs : List Lexeme) → xs ++ (ys ++ zs) ≡ (xs ++ ys) ++ zs
append_again xs ys zs = sym (append_assoc xs ys zs)

-- the text of tokens begins with their lexemes
lex_before : (c : Bool) (pre rest : List Token) → ArePrintable pre → lex between (print_from c (pre ++ rest)) ≡ lexemes c pre ++ lex between (print_from (ended c pre) rest)
unfolding print_from ArePrintable
lex_before c [] rest h = refl
lex_before c (t ∷ ts) rest h =
    let more = lexemes (ends t) ts in
    let left = lex between (print_from (ended (ends t) ts) rest) in
    let comma_there : List Lexeme = cond (c && begins t) (comma ∷ []) [] in
    lex_separator (c && begins t) _
    ∙ ap (λ l. comma_there ++ l)
    (lex_token t (print_from (ends t) (ts ++ rest)) h.0 (λ e. ap (λ b. ends_word (print_from b (ts ++ rest))) e ∙ after_value_ends (ts ++ rest))
    ∙ ap (λ l. token_lexemes t ++ l) (lex_before (ends t) ts rest h.1) ∙ append_again (token_lexemes t) more left)
    ∙ append_again comma_there (token_lexemes t ++ more) left

lex_number_at : (s : List ℕ) (post : List Token) → IsWide s → (ls : List Lexeme) × (lex between (print_from false (number s ∷ post)) ≡ token bad ∷ ls)
unfolding print_from
lex_number_at s post w = lex_wide s (print_from true post) w

-- a text with such a number, behind a key, is lexed no further than its tokens before it
pub lex_up_to : (pre : List Token) (s : List ℕ) (post : List Token) → ArePrintable pre → ended false pre ≡ false → IsWide s → (ls : List Lexeme) × (lex between (print (pre ++ number s ∷ post)) ≡ lexemes false pre ++ token bad ∷ ls)
lex_up_to pre s post h behind w =
    let b = lex_number_at s post w in
    (b.0, lex_before false pre (number s ∷ post) h ∙ ap (λ l. lexemes false pre ++ l) (ap (λ c. lex between (print_from c (number s ∷ post))) behind ∙ b.1))

-- ---- a text whose numbers are of JSON

abbrev alone : json.Json → json.Json × List Token
alone j = (j, [])

record Whole (o : Option (json.Json × List Token)) (e : Data) : Type 0 where
  value : json.Json
  last : o ≡ Some (alone value)
  is : of_json value ≡ Some e

whole : (o : Option (json.Json × List Token)) (e : Data) → option_and_then of_json (option_and_then (λ p. json.if_last p.0 p.1) o) ≡ Some e → Whole o e
whole None e h = absurd (cc h)
whole (Some (j, [])) e h = record { value = j; last = refl; is = h }
whole (Some (j, t ∷ ts)) e h = absurd (cc h)

one_value : (i j : json.Json) → Some (alone i) ≡ Some (alone j) → i ≡ j
one_value i j e = let same : alone i ≡ alone j = cc e in ap (λ p. p.0) same

-- what is read is made of its outline
pub read_outline : (d e : Data) → HasNumbers (outline d) → read (compact_text d) ≡ Some e → of_json (outline d) ≡ Some e
read_outline d e numbers h =
    let j : json.Json = outline d in
    let deep : ℕ = tree.depth j in
    let same : tokens (compact_text d) ≡ json_tokens j = ap tokens (sym (print-outline d)) ∙ tokens-print (json_tokens j) (ArePrintable-json_tokens j numbers) in
    let found = whole (json.value max_depth (tokens (compact_text d))) e h in
    let shallow : json.value max_depth (json_tokens j) ≡ Some (alone found.value) = ap (json.value max_depth) (sym same) ∙ found.last in
    let deeper : json.value deep (json_tokens j) ≡ Some (alone j) = ap (json.value deep) (sym (append-nil (json_tokens j))) ∙ value-json_tokens j deep [] (omega arith) in
    let is : found.value ≡ j = one_value found.value j (one_reading max_depth deep (json_tokens j) (alone found.value) (alone j) shallow deeper) in
    ap of_json (sym is) ∙ found.is

-- nothing is read of a text whose value isn't read
pub unread : (text : List ℕ) (e : Data) → json.value max_depth (tokens text) ≡ None → read text ≡ Some e → ⊥
unread text e none h = let found = whole (json.value max_depth (tokens text)) e h in let both : None ≡ Some (alone found.value) = sym none ∙ found.last in absurd (cc both)
