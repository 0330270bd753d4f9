-- A comparison holds exactly where one of its ways is met.
use Rattle.std.proofs.Common.{arith, ◌≡◌, ◌↔◌, ◌⊎◌, inl, inr, ℤ, pos, negsuc, ◌+ℤ◌, ◌-ℤ◌, ◌≤ℤ◌, ◌<ℤ◌, true}
use Rattle.std.specs.Prelude.{int_le, int_lt, not}
use Rattle.std.specs.Ordering.{int_eq}
use Rattle.std.proofs.lemmas.Int.{ints}
use Rattle.kp_kore.specs.Hooks.{Comparison, equal, different, less, at_most, greater, at_least}
use Rattle.kp_kore.specs.Interpretation.{compared}
use Rattle.kp_demands.specs.Demands.{Assignment, HasWay}
use Rattle.kp_clause_demands.specs.Comparing.{part_number, ways_of}
use Rattle.kp_clause_demands.specs.declared.comparing.ComparedPart.{ComparedPart}

-- bounds of differences, of x and b against y and c
most_says : (x y b c : ℤ) → ((x -ℤ y) ≤ℤ ((c -ℤ b) +ℤ pos 0)) ↔ ((x +ℤ b) ≤ℤ (y +ℤ c))
most_says x y b c = (λ h. omega (arith, ints, h), λ h. omega (arith, ints, h))

less_says : (x y b c : ℤ) → ((x -ℤ y) ≤ℤ ((c -ℤ b) +ℤ negsuc 0)) ↔ ((x +ℤ b) <ℤ (y +ℤ c))
less_says x y b c = (λ h. omega (arith, ints, h), λ h. omega (arith, ints, h))

le_test : (m n : ℤ) → (m ≤ℤ n) ↔ (int_le m n ≡ true)
le_test m n = (λ h. grind (arith, ints, h), λ h. grind (arith, ints, h))

lt_test : (m n : ℤ) → (m <ℤ n) ↔ (int_lt m n ≡ true)
lt_test m n = (λ h. grind (arith, ints, h), λ h. grind (arith, ints, h))

eq_test : (m n : ℤ) → ((m ≤ℤ n) × (n ≤ℤ m)) ↔ (int_eq m n ≡ true)
eq_test m n = (λ h. grind (arith, ints, h.0, h.1), λ h. (grind (arith, ints, h), grind (arith, ints, h)))

ne_test : (m n : ℤ) → ((m <ℤ n) ⊎ (n <ℤ m)) ↔ (not (int_eq m n) ≡ true)
ne_test m n = (to, λ h. grind (arith, ints, h))
  where
    to : (m <ℤ n) ⊎ (n <ℤ m) → not (int_eq m n) ≡ true
    to (inl h) = grind (arith, ints, h)
    to (inr h) = grind (arith, ints, h)

pub through : {A B C : Type 0} → A ↔ B → B ↔ C → A ↔ C
through f g = (λ a. g.0 (f.0 a), λ c. f.1 (g.1 c))

-- one way of one demand
alone : {A : Type 0} → ((A × Unit {0}) ⊎ ⊥) ↔ A
alone {A} = (to, λ a. inl (a, tt))
  where
    to : (A × Unit {0}) ⊎ ⊥ → A
    to (inl h) = h.0
    to (inr h) = absurd h

one_of_two : {A B C D : Type 0} → A ↔ C → B ↔ D → ((A × Unit {0}) ⊎ ((B × Unit {0}) ⊎ ⊥)) ↔ (C ⊎ D)
one_of_two {A} {B} {C} {D} f g = (to, back)
  where
    to : (A × Unit {0}) ⊎ ((B × Unit {0}) ⊎ ⊥) → C ⊎ D
    to (inl h) = inl (f.0 h.0)
    to (inr (inl h)) = inr (g.0 h.0)
    to (inr (inr h)) = absurd h

    back : C ⊎ D → (A × Unit {0}) ⊎ ((B × Unit {0}) ⊎ ⊥)
    back (inl h) = inl (f.1 h, tt)
    back (inr h) = inr (inl (g.1 h, tt))

both_of_one : {A B C D : Type 0} → A ↔ C → B ↔ D → ((A × (B × Unit {0})) ⊎ ⊥) ↔ (C × D)
both_of_one {A} {B} {C} {D} f g = (to, λ h. inl (f.1 h.0, (g.1 h.1, tt)))
  where
    to : (A × (B × Unit {0})) ⊎ ⊥ → C × D
    to (inl h) = (f.0 h.0, g.0 h.1.0)
    to (inr h) = absurd h

pub says : (a : Assignment) (c : Comparison) (m n : ComparedPart) → HasWay a (ways_of c m n) ↔ (compared c (part_number a.wholes m) (part_number a.wholes n) ≡ true)
says a at_most m n = through alone (through (most_says (a.wholes m.place) (a.wholes n.place) m.constant n.constant) (le_test _ _))
says a less m n = through alone (through (less_says (a.wholes m.place) (a.wholes n.place) m.constant n.constant) (lt_test _ _))
says a at_least m n = through alone (through (most_says (a.wholes n.place) (a.wholes m.place) n.constant m.constant) (le_test _ _))
says a greater m n = through alone (through (less_says (a.wholes n.place) (a.wholes m.place) n.constant m.constant) (lt_test _ _))
says a equal m n = through (both_of_one (most_says (a.wholes m.place) (a.wholes n.place) m.constant n.constant) (most_says (a.wholes n.place) (a.wholes m.place) n.constant m.constant)) (eq_test _ _)
says a different m n = through (one_of_two (less_says (a.wholes m.place) (a.wholes n.place) m.constant n.constant) (less_says (a.wholes n.place) (a.wholes m.place) n.constant m.constant)) (ne_test _ _)
