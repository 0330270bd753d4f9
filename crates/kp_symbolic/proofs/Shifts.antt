-- Comparisons don't change where the same is added to both sides.
use Rattle.std.proofs.Common.{◌≡◌, refl, sym, ◌∙◌, ap, arith, ℤ, ◌+ℤ◌, ◌-ℤ◌, Bool, true, false, not}
use Rattle.std.specs.Prelude.{int_lt, int_le}
use Rattle.std.specs.Ordering.{int_eq}
use Rattle.std.proofs.Math.IntN.{+ℤ_comm, +ℤ-neg_ℤ_cancel}
use Rattle.std.proofs.lemmas.Int.{ints}
use Rattle.std.proofs.lemmas.Bool.Decides.{Decides-int_eq}
use Rattle.kp_kore.specs.Hooks.{Comparison, equal, different, less, at_most, greater, at_least}
use Rattle.kp_kore.specs.Interpretation.{compared}

same_test : (b c : Bool) → (b ≡ true → c ≡ true) → (c ≡ true → b ≡ true) → b ≡ c
same_test true c f h = sym (f refl)
same_test false true f h = h refl
same_test false false f h = refl

lt_shift : (m k e : ℤ) → int_lt (m +ℤ k) (m +ℤ e) ≡ int_lt k e
lt_shift m k e = same_test (int_lt (m +ℤ k) (m +ℤ e)) (int_lt k e) (λ h. grind (arith, ints)) (λ h. grind (arith, ints))

le_shift : (m k e : ℤ) → int_le (m +ℤ k) (m +ℤ e) ≡ int_le k e
le_shift m k e = same_test (int_le (m +ℤ k) (m +ℤ e)) (int_le k e) (λ h. grind (arith, ints)) (λ h. grind (arith, ints))

pub same_shifted : (n c d : ℤ) → n +ℤ c ≡ n +ℤ d → c ≡ d
same_shifted n c d e = sym (+ℤ-neg_ℤ_cancel c n) ∙ ap (λ m. m -ℤ n) (+ℤ_comm c n ∙ e ∙ +ℤ_comm n d) ∙ +ℤ-neg_ℤ_cancel d n

eq_shift : (m k e : ℤ) → int_eq (m +ℤ k) (m +ℤ e) ≡ int_eq k e
eq_shift m k e = same_test (int_eq (m +ℤ k) (m +ℤ e)) (int_eq k e)
    (λ h. (Decides-int_eq k e).1 (same_shifted m k e ((Decides-int_eq (m +ℤ k) (m +ℤ e)).0 h)))
    (λ h. (Decides-int_eq (m +ℤ k) (m +ℤ e)).1 (ap (λ n. m +ℤ n) ((Decides-int_eq k e).0 h)))

pub compared_shift : (o : Comparison) (m k e : ℤ) → compared o (m +ℤ k) (m +ℤ e) ≡ compared o k e
compared_shift equal m k e = eq_shift m k e
compared_shift different m k e = ap not (eq_shift m k e)
compared_shift less m k e = lt_shift m k e
compared_shift at_most m k e = le_shift m k e
compared_shift greater m k e = lt_shift m e k
compared_shift at_least m k e = le_shift m e k
