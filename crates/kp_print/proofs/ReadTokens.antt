-- A token in front of a text that is read: the whole is read as that token and the text's.
use Rattle.std.proofs.Common.{◌≡◌, ℕ, suc, ◌≤◌, ◌<◌, Bool, true, false, eqb, List, [], ◌∷◌, ◌++◌, length, refl, sym, ap, subst, ◌∙◌, append_assoc, arith}
use Rattle.std.specs.Prelude.{Some, option_map, nat_lt, ◌&&◌, IsUtf8}
use Rattle.std.specs.Char.{is_ascii_alphabetic}
use Rattle.std.specs.Str.{all_scalars, encode_utf8_all}
use Rattle.std.proofs.lemmas.Str.{encode_ascii}
use Rattle.std.specs.List.{AllByRecursion}
use Rattle.std.proofs.lemmas.Bool.Decides.{nat_tests}
use Rattle.std.proofs.lemmas.List.{append-nil}
use Rattle.kp_kore.specs.Syntax.{Text}
use Rattle.kp_text.specs.declared.tail.Tail.TheVariants.{Whole}
use Rattle.kp_text.specs.Tokens.{KoreToken, identifier, mark, Lexing, between, in_identifier, after_colon, Lexemes, lexeme, is_white, is_identifier_byte, begun, lexed}
use Rattle.kp_text.specs.Grammar.{Leveled, at_level, plain}
use Rattle.kp_text.specs.Spelling.{token_list, tokens_of, IsShallow}

-- bytes of ASCII, which are UTF-8
abbrev pub are_ascii : Text → Bool
are_ascii [] = true
are_ascii (b ∷ bs) = nat_lt b 128 && are_ascii bs

both : (a b : Bool) → (a && b) ≡ true → (a ≡ true) × (b ≡ true)
both true b h = (refl, h)
both false b h = absurd (cc)

pub ascii_append : (xs ys : Text) → are_ascii xs ≡ true → are_ascii ys ≡ true → are_ascii (xs ++ ys) ≡ true
ascii_append [] ys h k = k
ascii_append (x ∷ xs) ys h k = let p = both (nat_lt x 128) (are_ascii xs) h in rw p.0 (ascii_append xs ys p.1 k)

pub below : (a b : ℕ) → nat_lt a b ≡ true → a < b
below a b h = grind (arith, nat_tests)

ascii_scalar : (c : ℕ) (cs : List ℕ) → c < 128 → all_scalars cs ≡ true → all_scalars (c ∷ cs) ≡ true
ascii_scalar c cs h k = rw k (one c h)
  where
    one : (c : ℕ) → c < 128 → all_scalars (c ∷ []) ≡ true
    one c h = grind (arith, nat_tests)

pub ascii_utf8 : (bs : Text) → are_ascii bs ≡ true → IsUtf8 bs
ascii_utf8 bs h = (bs, (scalars bs h, same bs h))
  where
    scalars : (bs : Text) → are_ascii bs ≡ true → all_scalars bs ≡ true
    scalars [] h = refl
    scalars (b ∷ bs) h = let p = both (nat_lt b 128) (are_ascii bs) h in ascii_scalar b bs (below b 128 p.0) (scalars bs p.1)

    same : (bs : Text) → are_ascii bs ≡ true → encode_utf8_all bs ≡ bs
    same [] h = refl
    same (b ∷ bs) h = let p = both (nat_lt b 128) (are_ascii bs) h in rw (encode_ascii b (below b 128 p.0)) (ap (λ (x : Text). b ∷ x) (same bs p.1))

-- the bytes are read as these tokens, none of which stands too deep
pub record Reads (bytes : Text) (ls : List Leveled) : Type 0 where
  pub ascii : are_ascii bytes ≡ true
  pub tokens : token_list (lexed Whole bytes between) ≡ Some (tokens_of ls)
  pub shallow : IsShallow ls

pub nothing_reads : Reads [] []
nothing_reads = record { ascii = refl; tokens = refl; shallow = tt }

-- where the lexer says so
pub token_reads : (front rest : Text) (t : KoreToken) (n : ℕ) (ls : List Leveled) → n ≤ 256 → are_ascii front ≡ true → lexed Whole (front ++ rest) between ≡ lexeme (length (front ++ rest)) t (lexed Whole rest between) → Reads rest ls → Reads (front ++ rest) (at_level n t ls)
token_reads front rest t n ls small ascii is r = record { ascii = ascii_append front rest ascii r.ascii; tokens = ap token_list is ∙ ap (option_map (λ ts. t ∷ ts)) r.tokens; shallow = (small, r.shallow) }

pub plain_reads : (front rest : Text) (t : KoreToken) (ls : List Leveled) → are_ascii front ≡ true → lexed Whole (front ++ rest) between ≡ lexeme (length (front ++ rest)) t (lexed Whole rest between) → Reads rest ls → Reads (front ++ rest) (plain t ls)
plain_reads front rest t ls ascii is r = token_reads front rest t 0 ls (omega arith) ascii is r

pub space_reads : (rest : Text) (ls : List Leveled) → Reads rest ls → Reads (32 ∷ rest) ls
space_reads rest ls r = record { ascii = r.ascii; tokens = r.tokens; shallow = r.shallow }

-- names
pub record IsName (x : Text) : Type 0 where
  pub first : ℕ
  pub others : List ℕ
  pub is : x ≡ first ∷ others
  pub letter : is_ascii_alphabetic first ≡ true
  pub more : AllByRecursion (λ b. is_identifier_byte b ≡ true) others

-- whether a text goes on with a byte of a name, and whether it begins with a letter
abbrev pub goes_on : Text → Bool
goes_on [] = false
goes_on (b ∷ bs) = is_identifier_byte b

abbrev pub has_letter : Text → Bool
has_letter [] = false
has_letter (b ∷ bs) = is_ascii_alphabetic b

name_ends : (rest t : Text) (at : ℕ) → goes_on rest ≡ false → lexed Whole rest (in_identifier at t) ≡ lexeme at (identifier t) (lexed Whole rest between)
name_ends [] t at e = refl
name_ends (b ∷ bs) t at e = rw e refl

name_goes_on : (others rest t : Text) (at : ℕ) → AllByRecursion (λ b. is_identifier_byte b ≡ true) others → goes_on rest ≡ false → lexed Whole (others ++ rest) (in_identifier at t) ≡ lexeme at (identifier (t ++ others)) (lexed Whole rest between)
name_goes_on [] rest t at all e = name_ends rest t at e ∙ ap (λ (x : Text). lexeme at (identifier x) (lexed Whole rest between)) (sym (append-nil t))
name_goes_on (b ∷ bs) rest t at all e = rw all.0 (name_goes_on bs rest (t ++ b ∷ []) at all.1 e ∙ ap (λ (x : Text). lexeme at (identifier x) (lexed Whole rest between)) (append_assoc t (b ∷ []) bs))

not_white : (b : ℕ) → is_ascii_alphabetic b ≡ true → is_white b ≡ false
not_white b h = grind (arith, nat_tests)

letter_begins : (on : Lexing → Lexemes) (b left : ℕ) → is_ascii_alphabetic b ≡ true → begun on b left ≡ on (in_identifier left (b ∷ []))
letter_begins on b left h = rw (not_white b h, h) refl

name_lexed : (first : ℕ) (others rest : Text) → is_ascii_alphabetic first ≡ true → AllByRecursion (λ b. is_identifier_byte b ≡ true) others → goes_on rest ≡ false → lexed Whole (first ∷ (others ++ rest)) between ≡ lexeme (length (first ∷ (others ++ rest))) (identifier (first ∷ others)) (lexed Whole rest between)
name_lexed first others rest letter more e = letter_begins (lexed Whole (others ++ rest)) first (suc (length (others ++ rest))) letter ∙ name_goes_on others rest (first ∷ []) (suc (length (others ++ rest))) more e

letter_ascii : (b : ℕ) → is_ascii_alphabetic b ≡ true → nat_lt b 128 ≡ true
letter_ascii b h = grind (arith, nat_tests)

identifier_ascii : (b : ℕ) → is_identifier_byte b ≡ true → nat_lt b 128 ≡ true
identifier_ascii b h = grind (arith, nat_tests)

identifiers_ascii : (bs : Text) → AllByRecursion (λ b. is_identifier_byte b ≡ true) bs → are_ascii bs ≡ true
identifiers_ascii [] all = refl
identifiers_ascii (b ∷ bs) all = rw (identifier_ascii b all.0) (identifiers_ascii bs all.1)

name_ascii : (first : ℕ) (others : Text) → is_ascii_alphabetic first ≡ true → AllByRecursion (λ b. is_identifier_byte b ≡ true) others → are_ascii (first ∷ others) ≡ true
name_ascii first others letter more = rw (letter_ascii first letter) (identifiers_ascii others more)

pub name_reads : (n : ℕ) (x rest : Text) (ls : List Leveled) → n ≤ 256 → IsName x → goes_on rest ≡ false → Reads rest ls → Reads (x ++ rest) (at_level n (identifier x) ls)
name_reads n x rest ls small name e r = subst (λ (y : Text). Reads (y ++ rest) (at_level n (identifier y) ls)) (sym name.is) (token_reads (name.first ∷ name.others) rest (identifier (name.first ∷ name.others)) n ls small (name_ascii name.first name.others name.letter name.more) (name_lexed name.first name.others rest name.letter name.more e) r)

pub name_letter : (x rest : Text) → IsName x → has_letter (x ++ rest) ≡ true
name_letter x rest name = ap (λ (y : Text). has_letter (y ++ rest)) name.is ∙ name.letter

-- a colon before a letter
no_equals : (b : ℕ) → is_ascii_alphabetic b ≡ true → eqb b 61 ≡ false
no_equals b h = grind (arith, nat_tests)

colon_ends : (rest : Text) (at : ℕ) → has_letter rest ≡ true → lexed Whole rest (after_colon at) ≡ lexeme at (mark 58) (lexed Whole rest between)
colon_ends [] at h = absurd (cc)
colon_ends (b ∷ bs) at h = rw (no_equals b h) refl

pub colon_reads : (rest : Text) (ls : List Leveled) → has_letter rest ≡ true → Reads rest ls → Reads (58 ∷ rest) (plain (mark 58) ls)
colon_reads rest ls h r = plain_reads (58 ∷ []) rest (mark 58) ls refl (colon_ends rest (suc (length rest)) h) r
