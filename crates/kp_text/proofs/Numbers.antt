-- The digits of a number in a string.
use Rattle.std.proofs.Common.{◌≡◌, ℕ, zero, suc, ◌+◌, ◌*◌, ◌-◌, ◌^◌, ◌<◌, true, false, cond, ltb, List, ◌∷◌, [], ◌++◌, refl, sym, ◌∙◌, arith}
use Rattle.std.specs.Char.{encode_utf8, digit_value, is_digit}
use Rattle.std.specs.Str.{all_scalars}
use Rattle.std.proofs.lemmas.Bool.Decides.{nat_tests}
use Rattle.std.proofs.Common.{add-one}
use Rattle.std.proofs.Math.Nat.{pow-suc}
use Rattle.kp_kore.specs.Syntax.{Text}
use Rattle.kp_text.specs.Tokens.{in_string, in_number, Lexemes, lexed, broken_string}
use Rattle.kp_text.specs.declared.tail.Tail.{Tail}
use Rattle.kp_text.specs.declared.fault.FaultKind.TheVariants as kind
use Rattle.kp_text.proofs.Characters.{further_character}

-- a number with all its digits
abbrev pub numbered_all : Tail → List ℕ → ℕ → Text → ℕ → Lexemes
numbered_all tail rest quote t n = cond (all_scalars (n ∷ [])) (lexed tail rest (in_string quote (t ++ encode_utf8 n))) (broken_string quote quote kind.String)

-- and with so many digits still to come
abbrev pub numbered : Tail → List ℕ → ℕ → Text → ℕ → ℕ → Lexemes
numbered tail rest quote t zero n = numbered_all tail rest quote t n
numbered tail rest quote t (suc more) n = lexed tail rest (in_number quote t (suc more) n)

digit_test : (c : ℕ) → digit_value c < 16 → is_digit c 16 ≡ true
digit_test c h = grind (arith, nat_tests)

no_digit_test : (c : ℕ) → (digit_value c < 16 → ⊥) → is_digit c 16 ≡ false
no_digit_test c h = grind (arith, nat_tests)

two_more : (more : ℕ) → ltb 1 (suc (suc more)) ≡ true
two_more more = grind (arith, nat_tests)

one_less : (more : ℕ) → suc (suc more) - 1 ≡ suc more
one_less more = omega arith

pub digit_goes_on : (tail : Tail) (text after : List ℕ) (c quote : ℕ) (t : Text) (more n : ℕ) → text ≡ encode_utf8 c ++ after → digit_value c < 16 → lexed tail text (in_number quote t (suc more) n) ≡ numbered tail after quote t more (n * 16 + digit_value c)
digit_goes_on tail text after c quote t zero n is h = further_character tail text after c (in_number quote t 1 n) (broken_string quote quote kind.String) is refl ∙ rw (digit_test c h) refl
digit_goes_on tail text after c quote t (suc more) n is h = further_character tail text after c (in_number quote t (suc (suc more)) n) (broken_string quote quote kind.String) is refl ∙ rw (digit_test c h, two_more more, one_less more) refl

pub digit_missing : (tail : Tail) (text after : List ℕ) (c quote : ℕ) (t : Text) (more n : ℕ) → text ≡ encode_utf8 c ++ after → (digit_value c < 16 → ⊥) → lexed tail text (in_number quote t (suc more) n) ≡ broken_string quote quote kind.String
digit_missing tail text after c quote t more n is h = further_character tail text after c (in_number quote t (suc more) n) (broken_string quote quote kind.String) is refl ∙ rw (no_digit_test c h) refl

pub digit_turn : (tail : Tail) (text after : List ℕ) (c d quote digits i n : ℕ) (t : Text) (all : Lexemes) → text ≡ encode_utf8 c ++ after → digit_value c < 16 → d ≡ digit_value c → i < digits → numbered tail text quote t (digits - i) n ≡ all → numbered tail after quote t (digits - (i + 1)) (n * 16 + d) ≡ all
digit_turn tail text after c d quote digits i n t all is h e lt so_far =
    let k : digits - i ≡ suc (digits - (i + 1)) = omega arith in
    let there : lexed tail text (in_number quote t (suc (digits - (i + 1))) n) ≡ all = rw k at so_far in
    rw e (sym (digit_goes_on tail text after c quote t (digits - (i + 1)) n is h) ∙ there)

pub digit_fault : (tail : Tail) (text after : List ℕ) (c quote digits i n : ℕ) (t : Text) (all : Lexemes) → text ≡ encode_utf8 c ++ after → (digit_value c < 16 → ⊥) → i < digits → numbered tail text quote t (digits - i) n ≡ all → broken_string quote quote kind.String ≡ all
digit_fault tail text after c quote digits i n t all is h lt so_far =
    let k : digits - i ≡ suc (digits - (i + 1)) = omega arith in
    let there : lexed tail text (in_number quote t (suc (digits - (i + 1))) n) ≡ all = rw k at so_far in
    sym (digit_missing tail text after c quote t (digits - (i + 1)) n is h) ∙ there

pub number_fits : (i v d : ℕ) → i < 8 → v < 16 ^ i → d < 16 → v * 16 + d < 4294967296
number_fits zero v d k h l = omega arith
number_fits (suc zero) v d k h l = omega arith
number_fits (suc (suc zero)) v d k h l = omega arith
number_fits (suc (suc (suc zero))) v d k h l = omega arith
number_fits (suc (suc (suc (suc zero)))) v d k h l = omega arith
number_fits (suc (suc (suc (suc (suc zero))))) v d k h l = omega arith
number_fits (suc (suc (suc (suc (suc (suc zero)))))) v d k h l = omega arith
number_fits (suc (suc (suc (suc (suc (suc (suc zero))))))) v d k h l = omega arith
number_fits (suc (suc (suc (suc (suc (suc (suc (suc i)))))))) v d k h l = absurd (omega arith)

pub number_grows : (i v d : ℕ) → v < 16 ^ i → d < 16 → v * 16 + d < 16 ^ (i + 1)
number_grows i v d h l =
    let e : 16 ^ (i + 1) ≡ 16 ^ i * 16 = rw add-one (pow-suc 16 i) in
    rw e (omega arith)
