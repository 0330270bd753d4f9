-- The least new name isn't in use; the new variables of a list of sorts are apart from each other and from those in use.
use Rattle.std.proofs.Common.{◌≡◌, refl, sym, ◌∙◌, ap, arith, ◌⊎◌, inl, inr, ℕ, zero, suc, ◌+◌, ◌<◌, ◌≤◌, ◌^◌, Bool, true, false, ◌||◌, List, [], ◌∷◌, length}
use Rattle.std.specs.Prelude.{if◌then◌else◌, drop}
use Rattle.std.specs.List.{AllByRecursion, list_any}
use Rattle.std.specs.Str.{bytes_eq}
use Rattle.std.specs.Str.Parse.{digits_value}
use Rattle.std.proofs.lemmas.Fmt.{decimal_is_IsNumeral_wide}
use Rattle.std.proofs.lemmas.Slice.Eq.{bytes_eq-Decides}
use Rattle.kp_kore.specs.Syntax.{Text, KoreSorts, no_sorts, next_sort}
use Rattle.kp_kore.specs.Parts.{sort_list}
use Rattle.kp_kore.specs.Instance.{is_named}
use Rattle.kp_kore.proofs.SameLemmas.{sorts_equal-Decides}
use Rattle.kp_symbolic.specs.Weights.{each_once}
use Rattle.kp_symbolic.specs.Opening.{are_variables}
use Rattle.kp_symbolic.specs.Writing.{fresh_name, fresh_from, least_fresh, new_variables, variables_of}
use Rattle.kp_symbolic.proofs.NumericNames.{once_not_longer}

-- ---- names of different numbers differ

pub same_number : (n m : ℕ) → n < 10 ^ 64 → m < 10 ^ 64 → fresh_name n ≡ fresh_name m → n ≡ m
same_number n m h k e = sym (decimal_is_IsNumeral_wide n h).1 ∙ ap (λ t. digits_value 10 (drop 5 t)) e ∙ (decimal_is_IsNumeral_wide m k).1

names_differ : (n m : ℕ) → n < m → m < 10 ^ 64 → bytes_eq (fresh_name n) (fresh_name m) ≡ false
names_differ n m h k = by (bytes_eq (fresh_name n) (fresh_name m)) refl
  where
    below : n < 10 ^ 64
    below = omega (arith, h, k)

    apart : n ≡ m → ⊥
    apart e = omega (arith, h, e)

    by : (b : Bool) → bytes_eq (fresh_name n) (fresh_name m) ≡ b → b ≡ false
    by true e = absurd (apart (same_number n m below k ((bytes_eq-Decides (fresh_name n) (fresh_name m)).0 e)))
    by false e = refl

-- ---- a run of new names

-- so many names, from this number on
abbrev run : ℕ → ℕ → List Text
run n zero = []
run n (suc k) = fresh_name n ∷ run (suc n) k

not_among : (n m k : ℕ) → n < m → m + k ≤ 10 ^ 64 → list_any (bytes_eq (fresh_name n)) (run m k) ≡ false
not_among n m zero h b = refl
not_among n m (suc k) h b = rw (names_differ n m h (omega (arith, b))) (not_among n (suc m) k (omega (arith, h)) (omega (arith, b)))

run_once : (n k : ℕ) → n + k ≤ 10 ^ 64 → each_once (run n k) ≡ run n k
run_once n zero b = refl
run_once n (suc k) b = rw (not_among n (suc n) k (omega arith) (omega (arith, b))) (ap (λ xs. fresh_name n ∷ xs) (run_once (suc n) k (omega (arith, b))))

run_length : (n k : ℕ) → length (run n k) ≡ k
run_length n zero = refl
run_length n (suc k) = ap suc (run_length (suc n) k)

once_shorter : (xs : List Text) → length (each_once xs) ≤ length xs
once_shorter [] = omega arith
once_shorter (x ∷ xs) = by (list_any (bytes_eq x) xs) (once_shorter xs)
  where
    by : (b : Bool) → length (each_once xs) ≤ length xs → length (if b then each_once xs else x ∷ each_once xs) ≤ suc (length xs)
    by true h = omega (arith, h)
    by false h = omega (arith, h)

abbrev Holds : List Text → Text → Type 0
Holds ys x = list_any (bytes_eq x) ys ≡ true

-- the name that is found isn't used, or one more than were asked for are
found : (k n : ℕ) (used : List Text) → (list_any (bytes_eq (fresh_name (fresh_from k n used))) used ≡ false) ⊎ AllByRecursion (Holds used) (run n (suc k))
found zero n used = by (list_any (bytes_eq (fresh_name n)) used) refl
  where
    by : (b : Bool) → list_any (bytes_eq (fresh_name n)) used ≡ b → (list_any (bytes_eq (fresh_name n)) used ≡ false) ⊎ AllByRecursion (Holds used) (run n (suc zero))
    by true e = inr (e, tt)
    by false e = inl e
found (suc k) n used = by (list_any (bytes_eq (fresh_name n)) used) refl (found k (suc n) used)
  where
    by : (b : Bool) → list_any (bytes_eq (fresh_name n)) used ≡ b → (list_any (bytes_eq (fresh_name (fresh_from k (suc n) used))) used ≡ false) ⊎ AllByRecursion (Holds used) (run (suc n) (suc k))
        → (list_any (bytes_eq (fresh_name (if b then fresh_from k (suc n) used else n))) used ≡ false) ⊎ AllByRecursion (Holds used) (run n (suc (suc k)))
    by true e (inl i) = inl i
    by true e (inr a) = inr (e, a)
    by false e i = inl e

too_many : (used : List Text) → length used < 2 ^ 64 → AllByRecursion (Holds used) (run 1 (suc (length used))) → ⊥
too_many used b a =
    let i : length (each_once (run 1 (suc (length used)))) ≤ length (each_once used) = once_not_longer (run 1 (suc (length used))) used a in
    let j : length (each_once (run 1 (suc (length used)))) ≡ suc (length used) = ap length (run_once 1 (suc (length used)) (omega (arith, b))) ∙ run_length 1 (suc (length used)) in
    let k = once_shorter used in
    omega (arith, i, j, k)

pub least_is_new : (used : List Text) → length used < 2 ^ 64 → list_any (bytes_eq (least_fresh used)) used ≡ false
least_is_new used b = by (found (length used) 1 used)
  where
    by : (list_any (bytes_eq (least_fresh used)) used ≡ false) ⊎ AllByRecursion (Holds used) (run 1 (suc (length used))) → list_any (bytes_eq (least_fresh used)) used ≡ false
    by (inl i) = i
    by (inr a) = absurd (too_many used b a)

-- ---- new variables

other_name : (used : List Text) (y : Text) → length used < 2 ^ 64 → Holds used y → bytes_eq (least_fresh used) y ≡ false
other_name used y b h = by (bytes_eq (least_fresh used) y) refl
  where
    not_both : true ≡ false → ⊥
    not_both e = cc

    by : (c : Bool) → bytes_eq (least_fresh used) y ≡ c → c ≡ false
    by true e = absurd (not_both (sym h ∙ sym (ap (λ t. list_any (bytes_eq t) used) ((bytes_eq-Decides (least_fresh used) y).0 e)) ∙ least_is_new used b))
    by false e = refl

either_true : (a b : Bool) → b ≡ true → a || b ≡ true
either_true true b e = refl
either_true false b e = e

pub new_apart : (used : List Text) (ss : KoreSorts) (y : Text) → length used + length (sort_list ss) < 2 ^ 64 → Holds used y → is_named y (new_variables used ss) ≡ false
new_apart used no_sorts y b h = refl
new_apart used (next_sort s ss) y b h = rw (other_name used y (omega (arith, b)) h) (new_apart (least_fresh used ∷ used) ss y (omega (arith, b)) (either_true (bytes_eq y (least_fresh used)) (list_any (bytes_eq y) used) h))

pub holds_first : (x : Text) (used : List Text) → Holds (x ∷ used) x
holds_first x used = rw ((bytes_eq-Decides x x).1 refl) refl

pub new_are_variables : (used : List Text) (ss : KoreSorts) → length used + length (sort_list ss) < 2 ^ 64 → are_variables (new_variables used ss) ss (variables_of (new_variables used ss)) ≡ true
new_are_variables used no_sorts b = refl
new_are_variables used (next_sort s ss) b =
    let z = least_fresh used in
    rw ((bytes_eq-Decides z z).1 refl, (sorts_equal-Decides s s).1 refl, new_apart (z ∷ used) ss z (omega (arith, b)) (holds_first z used)) (new_are_variables (z ∷ used) ss (omega (arith, b)))
