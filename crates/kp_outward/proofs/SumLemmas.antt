-- The digits of a constant without its sign.
use Rattle.std.proofs.Common.{◌≡◌, refl, ℕ, zero, suc, ℤ, pos, negsuc, neg_ℤ, int_lt, true, false, nat_lt, unsigned_abs, arith}
use Rattle.std.specs.Fmt.{decimal, signed_decimal}
use Rattle.std.proofs.lemmas.Bool.Decides.{nat_tests}

-- a number above 0
is_above : (n : ℕ) → nat_lt 0 (suc n) ≡ true
is_above n = grind (arith, nat_tests)

pub digits_added : (c : ℤ) → int_lt (pos 0) c ≡ true → decimal (unsigned_abs c) ≡ signed_decimal c
digits_added (pos n) h = refl
digits_added (negsuc n) h = absurd (cc)

pub digits_taken : (c : ℤ) → int_lt (pos 0) c ≡ false → decimal (unsigned_abs c) ≡ signed_decimal (neg_ℤ c)
digits_taken (pos zero) h = refl
digits_taken (pos (suc n)) h = absurd (cc (is_above n, h))
digits_taken (negsuc n) h = refl
