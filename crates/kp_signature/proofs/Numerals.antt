-- What `parse` reads at 128 bits: a numeral that fits.
use Rattle.std.proofs.Common.{◌≡◌, refl, sym, ℕ, ◌+◌, ◌-◌, ◌^◌, ◌<◌, ◌≤◌, Bool, true, false, ◌&&◌, ℤ, pos, negsuc, List, [], ◌∷◌, length, Result, Ok, Err, OkIff, is_ok, nat_lt, nat_le, SFits, arith}
use Rattle.std.specs.Int.{w128}
use Rattle.std.specs.Bool.{Decides}
use Rattle.std.specs.Char.{digit_value}
use Rattle.std.specs.List.{list_all}
use Rattle.std.specs.Str.Parse.{IsNumeral, AllDigits, without_leading_sign, signed_digits_value, ParsesSigned}
use Rattle.std.proofs.lemmas.Bool.Decides.{Decides-ltb}
use Rattle.std.proofs.lemmas.Bool.{leb-true, le-leb}
use Rattle.kp_kore.specs.Syntax.{Text}
use Rattle.kp_kore.specs.Limits.{writes_number, fits_number}

below_both : (n m k : ℕ) → k ≡ m + 1 → n ≤ m → n < k
below_both n m k e h = omega arith

below_one : (n m k : ℕ) → k ≡ m + 1 → n < k → n ≤ m
below_one n m k e h = omega arith

fits_Decides : (k : ℤ) → Decides (fits_number k) (SFits w128 k)
fits_Decides (pos n) = let d = Decides-ltb n (2 ^ 127) in (λ h. record { sfits = d.0 h }, λ f. d.1 f.sfits)
fits_Decides (negsuc n) = by (nat_le n (2 ^ 127 - 1)) refl
  where
    by : (b : Bool) → nat_le n (2 ^ 127 - 1) ≡ b → Decides (b && true) (SFits w128 (negsuc n))
    by true e = (λ h. record { sfits = below_both n (2 ^ 127 - 1) (2 ^ 127) refl (leb-true n (2 ^ 127 - 1) e) }, λ f. refl)
    by false e = (λ h. absurd (cc), λ f. absurd (cc (le-leb n (2 ^ 127 - 1) (below_one n (2 ^ 127 - 1) (2 ^ 127) refl f.sfits), e)))

all_digits : (ds : List ℕ) → list_all (λ c. nat_lt (digit_value c) 10) ds ≡ true → AllDigits 10 ds
all_digits [] h = tt
all_digits (c ∷ cs) h = by (nat_lt (digit_value c) 10) (Decides-ltb (digit_value c) 10) h (λ k. all_digits cs k)
  where
    by : (b : Bool) → Decides b (digit_value c < 10) → b && list_all (λ c. nat_lt (digit_value c) 10) cs ≡ true → (list_all (λ c. nat_lt (digit_value c) 10) cs ≡ true → AllDigits 10 cs) → (digit_value c < 10) × AllDigits 10 cs
    by true d h rest = (d.0 refl, rest h)
    by false d h rest = absurd (cc)

numeral : (t : Text) → writes_number t ≡ true → IsNumeral 10 (without_leading_sign t)
numeral t h = by (nat_lt 0 (length (without_leading_sign t))) (Decides-ltb 0 (length (without_leading_sign t))) h
  where
    by : (b : Bool) → Decides b (0 < length (without_leading_sign t)) → b && list_all (λ c. nat_lt (digit_value c) 10) (without_leading_sign t) ≡ true → IsNumeral 10 (without_leading_sign t)
    by true d h = (d.0 refl, all_digits (without_leading_sign t) h)
    by false d h = absurd (cc)

told : {T E P : Type 0} (r : Result T E) (b : Bool) (v : T) → OkIff r P v → Decides b P → is_ok r ≡ b
told (Ok x) b v h d = sym (d.1 h.0)
told (Err e) true v h d = absurd (h (d.0 refl))
told (Err e) false v h d = refl

pub parsed : {E : Type 0} (t : Text) (r : Result ℤ E) → writes_number t ≡ true → ParsesSigned w128 10 t r → is_ok r ≡ fits_number (signed_digits_value 10 t)
parsed t r h p = let d = fits_Decides (signed_digits_value 10 t) in
    told r (fits_number (signed_digits_value 10 t)) (signed_digits_value 10 t) p (λ e. (numeral t h, d.0 e), λ q. d.1 q.1)
