-- The turns of rules: by priority number, and of one number in order.
-- Source: K's rules are tried by priority; of one priority the order is that of the definition.
use Rattle.std.specs.Prelude.{◌≡◌, ◌&&◌, ◌||◌, ◌==◌, ℕ, Bool, true, false, not, List, [], ◌∷◌, Option, Some, None, count_by, nat_lt, slice_get, if◌then◌else◌}
use Rattle.std.specs.List.{list_all}
use Rattle.kp_rules.specs.declared.rule.Rule.{Rule}

-- the place, from 0, has a rule, and it is one of these
abbrev pub is_mine : (Rule → Bool) → Option Rule → Bool
is_mine mine (Some r) = mine r
is_mine mine None = false

abbrev pub number_of : Option Rule → ℕ
number_of (Some r) = r.priority
number_of None = 0

-- the rule of the first place goes before that of the second
abbrev pub goes_before : List Rule → ℕ → ℕ → Bool
goes_before rules i j = nat_lt (number_of (slice_get rules i)) (number_of (slice_get rules j)) || (number_of (slice_get rules i) == number_of (slice_get rules j) && nat_lt i j)

-- none goes before an earlier one
abbrev pub are_ordered : List Rule → List ℕ → Bool
are_ordered rules [] = true
are_ordered rules (i ∷ is) = list_all (λ j. not (goes_before rules j i)) is && are_ordered rules is

-- the places of exactly these rules of the list, each once, in their turns
pub record AreInTurn (rules : List Rule) (mine : Rule → Bool) (places : List ℕ) : Type 0 where
  pub exact : (i : ℕ) → count_by (λ j. j == i) places ≡ (if is_mine mine (slice_get rules i) then 1 else 0)
  pub ordered : are_ordered rules places ≡ true

-- the rule, if there is one, before others
abbrev pub with_first : Option Rule → List Rule → List Rule
with_first (Some r) rules = r ∷ rules
with_first None rules = rules

-- the rules at these places
abbrev pub rules_among : List Rule → List ℕ → List Rule
rules_among rules [] = []
rules_among rules (i ∷ is) = with_first (slice_get rules i) (rules_among rules is)
