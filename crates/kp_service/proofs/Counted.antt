-- Where each of the first numbers stands once in a list, the list is no shorter than their number.
use Rattle.std.proofs.Common.{◌≡◌, refl, arith, ℕ, zero, suc, ◌+◌, ◌<◌, ◌≤◌, ◌==◌, eqb-true, ne_eqb, Bool, true, false, List, [], ◌∷◌, length}
use Rattle.std.specs.Prelude.{if◌then◌else◌}
use Rattle.kp_history.specs.Views.{times, total}

-- how often the number is one of the first so many
abbrev among : ℕ → ℕ → ℕ
among zero y = 0
among (suc n) y = (if suc n == y then 1 else 0) + among n y

above : (n y : ℕ) → n < y → among n y ≡ 0
above zero y h = refl
above (suc n) y h =
    let rest = above n y (omega (arith, h)) in
    rw (ne_eqb (suc n) y (λ e. omega (arith, e, h))) (omega (arith, rest))

at_most_once : (n y : ℕ) → among n y ≤ 1
at_most_once zero y = omega arith
at_most_once (suc n) y = by_test (suc n == y) refl (at_most_once n y)
  where
    by_test : (b : Bool) → (suc n == y) ≡ b → among n y ≤ 1 → (if b then 1 else 0) + among n y ≤ 1
    by_test true e rest = let none = above n y (omega (arith, eqb-true (suc n) y e)) in omega (arith, none)
    by_test false e rest = omega (arith, rest)

few : (n : ℕ) (ys : List ℕ) → total (among n) ys ≤ length ys
few n [] = omega arith
few n (y ∷ ys) = let first = at_most_once n y in let rest = few n ys in omega (arith, first, rest)

one_more : (n : ℕ) (ys : List ℕ) → total (among (suc n)) ys ≡ times (suc n) ys + total (among n) ys
one_more n [] = refl
one_more n (y ∷ ys) = let rest = one_more n ys in let k : ℕ = if suc n == y then 1 else 0 in omega (arith, rest)

all : (n : ℕ) (ys : List ℕ) → ((x : ℕ) → 0 < x → x ≤ n → times x ys ≡ 1) → n ≤ total (among n) ys
all zero ys each = omega arith
all (suc n) ys each =
    let here = each (suc n) (omega arith) (omega arith) in
    let rest = all n ys (λ x some within. each x some (omega (arith, within))) in
    let more = one_more n ys in
    omega (arith, here, rest, more)

pub no_shorter : (n : ℕ) (ys : List ℕ) → ((x : ℕ) → 0 < x → x ≤ n → times x ys ≡ 1) → n ≤ length ys
no_shorter n ys each = let a = all n ys each in let b = few n ys in omega (arith, a, b)
