-- Of all places by turn those that are wanted.
use Rattle.std.proofs.Common.{◌≡◌, refl, sym, ap, subst, ◌∙◌, ℕ, ◌+◌, Bool, true, false, cond, not, ◌&&◌, List, [], ◌∷◌, Option, Some, None, slice_get, count_by, ◌==◌, arith}
use Rattle.std.specs.List.{filter, list_all}
use Rattle.std.proofs.lemmas.Bool.Decides.{Decides-eqb}
use Rattle.std.proofs.lemmas.List.Sums.{sum_by-cons}
use Rattle.kp_rules.specs.declared.rule.Rule.{Rule}
use Rattle.kp_rule_sets.specs.Turns.{is_mine, goes_before, are_ordered, AreInTurn}

plus_none : (m : ℕ) → 0 + m ≡ m
plus_none m = omega arith

-- how often a place stands among those that are wanted
counted : (p : ℕ → Bool) (i : ℕ) (xs : List ℕ) → count_by (λ j. j == i) (filter p xs) ≡ cond (p i) (count_by (λ j. j == i) xs) 0
counted p i [] = by (p i)
  where
    by : (b : Bool) → ◌≡◌ {A = ℕ} 0 (cond b 0 0)
    by true = refl
    by false = refl
counted p i (x ∷ xs) = at (counted p i xs) (p x) refl (x == i) refl
  where
    f : ℕ → ℕ
    f = λ j. cond (j == i) 1 0

    fewer : (x == i) ≡ false → count_by (λ j. j == i) (x ∷ xs) ≡ count_by (λ j. j == i) xs
    fewer e = sum_by-cons f x xs ∙ ap (λ b. cond b 1 0 + count_by (λ j. j == i) xs) e ∙ plus_none (count_by (λ j. j == i) xs)

    at : count_by (λ j. j == i) (filter p xs) ≡ cond (p i) (count_by (λ j. j == i) xs) 0 →
        (b : Bool) → p x ≡ b → (c : Bool) → (x == i) ≡ c → count_by (λ j. j == i) (cond b (x ∷ filter p xs) (filter p xs)) ≡ cond (p i) (count_by (λ j. j == i) (x ∷ xs)) 0
    at rest true q true e =
        let same : x ≡ i = (Decides-eqb x i).0 e in
        let wanted : p i ≡ true = ap p (sym same) ∙ q in
        sum_by-cons f x (filter p xs) ∙ ap (λ n. f x + n) (rest ∙ ap (λ b. cond b (count_by (λ j. j == i) xs) 0) wanted) ∙ sym (sum_by-cons f x xs) ∙ sym (ap (λ b. cond b (count_by (λ j. j == i) (x ∷ xs)) 0) wanted)
    at rest true q false e = sum_by-cons f x (filter p xs) ∙ ap (λ b. cond b 1 0 + count_by (λ j. j == i) (filter p xs)) e ∙ plus_none (count_by (λ j. j == i) (filter p xs)) ∙ rest ∙ ap (λ n. cond (p i) n 0) (sym (fewer e))
    at rest false q false e = rest ∙ ap (λ n. cond (p i) n 0) (sym (fewer e))
    at rest false q true e =
        let same : x ≡ i = (Decides-eqb x i).0 e in
        let unwanted : p i ≡ false = ap p (sym same) ∙ q in
        rest ∙ ap (λ b. cond b (count_by (λ j. j == i) xs) 0) unwanted ∙ sym (ap (λ b. cond b (count_by (λ j. j == i) (x ∷ xs)) 0) unwanted)

all_kept : (q p : ℕ → Bool) (xs : List ℕ) → list_all q xs ≡ true → list_all q (filter p xs) ≡ true
all_kept q p [] h = refl
all_kept q p (x ∷ xs) h = by (all_kept q p xs) (p x) (q x) refl h
  where
    by : (list_all q xs ≡ true → list_all q (filter p xs) ≡ true) → (b c : Bool) → q x ≡ c → (c && list_all q xs) ≡ true → list_all q (cond b (x ∷ filter p xs) (filter p xs)) ≡ true
    by rest true true e k = ap (λ c. c && list_all q (filter p xs)) e ∙ rest k
    by rest false true e k = rest k
    by rest true false e k = absurd (cc)
    by rest false false e k = absurd (cc)

order_kept : (rules : List Rule) (p : ℕ → Bool) (xs : List ℕ) → are_ordered rules xs ≡ true → are_ordered rules (filter p xs) ≡ true
order_kept rules p [] h = refl
order_kept rules p (x ∷ xs) h = by (order_kept rules p xs) (p x) (list_all (λ j. not (goes_before rules j x)) xs) refl h
  where
    by : (are_ordered rules xs ≡ true → are_ordered rules (filter p xs) ≡ true) → (b c : Bool) → list_all (λ j. not (goes_before rules j x)) xs ≡ c → (c && are_ordered rules xs) ≡ true → are_ordered rules (cond b (x ∷ filter p xs) (filter p xs)) ≡ true
    by rest true true e k = ap (λ c. c && are_ordered rules (filter p xs)) (all_kept (λ j. not (goes_before rules j x)) p xs e) ∙ rest k
    by rest false true e k = rest k
    by rest true false e k = absurd (cc)
    by rest false false e k = absurd (cc)

pub kept_in_turn : (rules : List Rule) (mine : Rule → Bool) (order : List ℕ) → AreInTurn rules (λ _. true) order → AreInTurn rules mine (filter (λ i. is_mine mine (slice_get rules i)) order)
kept_in_turn rules mine order is = record {
  exact = λ i. counted (λ j. is_mine mine (slice_get rules j)) i order ∙ ap (λ n. cond (is_mine mine (slice_get rules i)) n 0) (is.exact i) ∙ by (slice_get rules i);
  ordered = order_kept rules (λ i. is_mine mine (slice_get rules i)) order is.ordered;
}
  where
    by : (o : Option Rule) → ◌≡◌ {A = ℕ} (cond (is_mine mine o) (cond (is_mine (λ _. true) o) 1 0) 0) (cond (is_mine mine o) 1 0)
    by (Some r) = of (mine r)
      where
        of : (b : Bool) → ◌≡◌ {A = ℕ} (cond b 1 0) (cond b 1 0)
        of b = refl
    by None = refl
