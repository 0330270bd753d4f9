-- Digits without a sign.
use Rattle.std.proofs.Common.{◌≡◌, refl, sym, ap, subst, ℕ, ◌+◌, ◌^◌, ◌<◌, Bool, true, false, ◌&&◌, cond, nat_lt, List, [], ◌∷◌, length, Some, None, arith}
use Rattle.std.specs.List.{list_all}
use Rattle.std.specs.Char.{is_ascii_digit, digit_value}
use Rattle.std.specs.Int.{IsInRange}
use Rattle.std.specs.Str.Parse.{AllDigits, IsNumeral, digits_value, without_leading_plus}
use Rattle.std.proofs.lemmas.Str.{digit_value_digit}
use Rattle.std.proofs.lemmas.Str.Parse.{without_leading_plus_none}
use Rattle.kp_kore.specs.Rules.{decimal_number, most_priority}

both_true : (a b : Bool) → a && b ≡ true → (a ≡ true) × (b ≡ true)
both_true true b h = (refl, h)
both_true false b h = absurd (cc)

in_range : (c : ℕ) → is_ascii_digit c ≡ true → IsInRange 48 57 c
in_range c h = grind arith

is_small : (c : ℕ) → is_ascii_digit c ≡ true → digit_value c < 10
is_small c h =
    let r : IsInRange 48 57 c = in_range c h in
    let e : digit_value c + 48 ≡ c = digit_value_digit c r in
    omega arith

all_digits : (bs : List ℕ) → list_all is_ascii_digit bs ≡ true → AllDigits 10 bs
all_digits [] h = tt
all_digits (c ∷ cs) h =
    let p : (is_ascii_digit c ≡ true) × (list_all is_ascii_digit cs ≡ true) = both_true (is_ascii_digit c) (list_all is_ascii_digit cs) h in
    (is_small c p.0, all_digits cs p.1)

numeral : (bs : List ℕ) → nat_lt 0 (length bs) ≡ true → list_all is_ascii_digit bs ≡ true → IsNumeral 10 bs
numeral [] l h = absurd (cc)
numeral (c ∷ cs) l h = (omega arith, all_digits (c ∷ cs) h)

no_plus : (bs : List ℕ) → list_all is_ascii_digit bs ≡ true → without_leading_plus bs ≡ bs
no_plus [] h = refl
no_plus (c ∷ cs) h =
    let p : (is_ascii_digit c ≡ true) × (list_all is_ascii_digit cs ≡ true) = both_true (is_ascii_digit c) (list_all is_ascii_digit cs) h in
    let r : IsInRange 48 57 c = in_range c p.0 in
    without_leading_plus_none (c ∷ cs) (omega arith)

at_least : (n : ℕ) → (n < 2 ^ 32 → ⊥) → most_priority < n
at_least n h = omega arith

pub too_large : (bs : List ℕ) → nat_lt 0 (length bs) && list_all is_ascii_digit bs ≡ true →
    ¬ (IsNumeral 10 (without_leading_plus bs) × (digits_value 10 (without_leading_plus bs) < 2 ^ 32)) →
    (n : ℕ) × (decimal_number bs ≡ Some n) × (most_priority < n)
too_large bs h refused =
    let p : (nat_lt 0 (length bs) ≡ true) × (list_all is_ascii_digit bs ≡ true) = both_true (nat_lt 0 (length bs)) (list_all is_ascii_digit bs) h in
    let same : without_leading_plus bs ≡ bs = no_plus bs p.1 in (
      digits_value 10 bs,
      ap (λ b. cond b (Some (digits_value 10 bs)) None) h,
      at_least (digits_value 10 bs) (λ k. refused (subst (λ ds. IsNumeral 10 ds × (digits_value 10 ds < 2 ^ 32)) (sym same) (numeral bs p.0 p.1, k))),
    )
