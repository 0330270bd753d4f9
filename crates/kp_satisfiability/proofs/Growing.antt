-- Some of the clauses weigh no more than all of them.
use Rattle.std.proofs.Common.{arith, ◌≡◌, refl, subst, ℕ, zero, suc, ◌+◌, ◌*◌, ◌≤◌, ◌^◌, Bool, true, false, ◌||◌, List, [], ◌∷◌, ◌++◌, length}
use Rattle.std.specs.Prelude.{if◌then◌else◌, unsigned_abs, nat_lt}
use Rattle.std.specs.List.{AllByRecursion, filter, filter_map, flat_map, list_any}
use Rattle.std.specs.Str.{bytes_eq}
use Rattle.std.proofs.Math.Pow.{pow_mono}
use Rattle.std.proofs.Math.Nat.{one-mul}
use Rattle.std.proofs.lemmas.Nat.{mul-le}
use Rattle.std.proofs.lemmas.Slice.Eq.{bytes_eq-Decides}
use Rattle.kp_kore.specs.Syntax.{Text}
use Rattle.kp_kore.proofs.ListLemmas.{all_append, all_left, all_right, all_map, all_filter}
use Rattle.kp_symbolic.specs.Plain.{Form, ReadLiteral}
use Rattle.kp_symbolic.specs.Weights.{DifferenceBound, bounds_of, clause_length, all_literals, product_of_lengths, IsBitLength, forms_in, all_bounds, largest, name_in, numeric_names, Weight, bits, literals, product, IsWeight, IsOver}
use Rattle.kp_symbolic.proofs.NumericNames.{once_not_longer}

fewer_literals : (test : List ReadLiteral → Bool) (cs : List (List ReadLiteral)) → all_literals (filter test cs) ≤ all_literals cs
fewer_literals test [] = omega arith
fewer_literals test (c ∷ cs) = by (test c) (fewer_literals test cs)
  where
    by : (b : Bool) → all_literals (filter test cs) ≤ all_literals cs → all_literals (if b then c ∷ filter test cs else filter test cs) ≤ clause_length c + all_literals cs
    by true h = omega (arith, h)
    by false h = omega (arith, h)

-- no clause is empty
abbrev pub AreSome : List (List ReadLiteral) → Type 0
AreSome = AllByRecursion (λ c. 1 ≤ clause_length c)

fewer_choices : (test : List ReadLiteral → Bool) (cs : List (List ReadLiteral)) → AreSome cs → product_of_lengths (filter test cs) ≤ product_of_lengths cs
fewer_choices test [] some = omega arith
fewer_choices test (c ∷ cs) some = by (test c) (fewer_choices test cs some.1)
  where
    by : (b : Bool) → product_of_lengths (filter test cs) ≤ product_of_lengths cs → product_of_lengths (if b then c ∷ filter test cs else filter test cs) ≤ clause_length c * product_of_lengths cs
    by true h = mul-le (clause_length c) (product_of_lengths (filter test cs)) (clause_length c) (product_of_lengths cs) (omega arith) h
    by false h = subst (λ n. n ≤ clause_length c * product_of_lengths cs) (one-mul (product_of_lengths (filter test cs))) (mul-le 1 (product_of_lengths (filter test cs)) (clause_length c) (product_of_lengths cs) some.0 h)

-- ---- bounds

each_flat : {X Y : Type 0} (P : Y → Type 0) (f : X → List Y) (xs : List X) → AllByRecursion P (flat_map f xs) → AllByRecursion (λ x. AllByRecursion P (f x)) xs
each_flat P f [] h = tt
each_flat P f (x ∷ xs) h = (all_left P (f x) (flat_map f xs) h, each_flat P f xs (all_right P (f x) (flat_map f xs) h))

flat_each : {X Y : Type 0} (P : Y → Type 0) (f : X → List Y) (xs : List X) → AllByRecursion (λ x. AllByRecursion P (f x)) xs → AllByRecursion P (flat_map f xs)
flat_each P f [] h = tt
flat_each P f (x ∷ xs) h = all_append P (f x) (flat_map f xs) h.0 (flat_each P f xs h.1)

-- what holds of all bounds holds of those of some of the clauses
fewer_bounds : (Q : DifferenceBound → Type 0) (test : List ReadLiteral → Bool) (cs : List (List ReadLiteral)) → AllByRecursion Q (all_bounds cs) → AllByRecursion Q (all_bounds (filter test cs))
fewer_bounds Q test cs h =
    let P = λ (f : Form). AllByRecursion Q (bounds_of f) in
    let said = λ (c : List ReadLiteral). filter_map (λ l. l.form) c in
    flat_each Q bounds_of (forms_in (filter test cs)) (flat_each P said (filter test cs) (all_filter (λ c. AllByRecursion P (said c)) test cs (each_flat P said cs (each_flat Q bounds_of (forms_in cs) h))))

abbrev IsAtMost : ℕ → DifferenceBound → Type 0
IsAtMost n b = unsigned_abs b.most ≤ n

largest_within : (n : ℕ) (bs : List DifferenceBound) → AllByRecursion (IsAtMost n) bs → largest bs ≤ n
largest_within n [] h = omega arith
largest_within n (b ∷ bs) h = let rest = largest_within n bs h.1 in let own = h.0 in grind (arith, rest, own)

each_within : (n : ℕ) (bs : List DifferenceBound) → largest bs ≤ n → AllByRecursion (IsAtMost n) bs
each_within n [] h = tt
each_within n (b ∷ bs) h = (grind (arith, h), each_within n bs (grind (arith, h)))

fewer_digits : (test : List ReadLiteral → Bool) (cs : List (List ReadLiteral)) → largest (all_bounds (filter test cs)) ≤ largest (all_bounds cs)
fewer_digits test cs = largest_within (largest (all_bounds cs)) (all_bounds (filter test cs)) (fewer_bounds (IsAtMost (largest (all_bounds cs))) test cs (each_within (largest (all_bounds cs)) (all_bounds cs) (omega arith)))

shorter : (m n k j : ℕ) → m ≤ n → IsBitLength m k → IsBitLength n j → k ≤ j
shorter m n zero j le a b = omega arith
shorter m n (suc k) j le a b = by (nat_lt k j) refl
  where
    by : (t : Bool) → nat_lt k j ≡ t → suc k ≤ j
    by true e = grind (arith, e)
    by false e =
        let past : j ≤ k = grind (arith, e) in
        let powers : 2 ^ j ≤ 2 ^ k = pow_mono past in
        let least = a.least k refl in
        let enough = b.enough in
        absurd (omega (arith, le, powers, least, enough))

-- ---- names

abbrev names_of : DifferenceBound → List Text
names_of b = name_in b.first ++ name_in b.second

abbrev Holds : List Text → Text → Type 0
Holds xs x = list_any (bytes_eq x) xs ≡ true

or_second : (a b : Bool) → b ≡ true → a || b ≡ true
or_second true b e = refl
or_second false b e = e

or_first : (a b : Bool) → a ≡ true → a || b ≡ true
or_first true b e = refl
or_first false b e = absurd (cc)

hold_themselves : (xs : List Text) → AllByRecursion (Holds xs) xs
hold_themselves [] = tt
hold_themselves (x ∷ xs) = (or_first (bytes_eq x x) (list_any (bytes_eq x) xs) ((bytes_eq-Decides x x).1 refl), all_map (Holds xs) (Holds (x ∷ xs)) xs (λ y h. or_second (bytes_eq y x) (list_any (bytes_eq y) xs) h) (hold_themselves xs))

fewer_names : (test : List ReadLiteral → Bool) (cs : List (List ReadLiteral)) → length (numeric_names (all_bounds (filter test cs))) ≤ length (numeric_names (all_bounds cs))
fewer_names test cs =
    let all = flat_map names_of (all_bounds cs) in
    once_not_longer (flat_map names_of (all_bounds (filter test cs))) all
    (flat_each (Holds all) names_of (all_bounds (filter test cs)) (fewer_bounds (λ b. AllByRecursion (Holds all) (names_of b)) test cs (each_flat (Holds all) names_of (all_bounds cs) (hold_themselves all))))

-- ---- weights

grows : (w : Weight) (test : List ReadLiteral → Bool) (cs : List (List ReadLiteral)) (n m : ℕ) → AreSome cs → IsWeight w (filter test cs) n → IsWeight w cs m → n ≤ m
grows bits test cs n m some h k =
    let names = fewer_names test cs in
    let digits = shorter (largest (all_bounds (filter test cs))) (largest (all_bounds cs)) h.0 k.0 (fewer_digits test cs) h.1 k.1 in
    let a = h.2 in
    let b = k.2 in
    omega (arith, names, digits, a, b)
grows literals test cs n m some h k = let fewer = fewer_literals test cs in omega (arith, fewer, h, k)
grows product test cs n m some h k = let fewer = fewer_choices test cs some in omega (arith, fewer, h, k)

-- where some of the clauses pass a limit, all do
pub over_all : (w : Weight) (test : List ReadLiteral → Bool) (cs : List (List ReadLiteral)) (n m : ℕ) → AreSome cs → IsOver w (filter test cs) n → IsWeight w cs m → IsOver w cs m
over_all w test cs n m some h k = let le = grows w test cs n m some h.weighs k in let above = h.above in record { weighs = k; above = omega (arith, le, above) }
