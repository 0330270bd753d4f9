-- A table of the truth values that are asked for.
use Rattle.std.specs.Prelude.{◌≡◌, ℕ, Bool, false, List, get_or, Option, Some, None, ⊤}

abbrev pub IsTruth : Option Bool → Bool → Type 0
IsTruth (Some b) t = t ≡ b
IsTruth None t = ⊤

-- the values are those that the table has
abbrev pub HaveTruths : List (Option Bool) → (ℕ → Bool) → Type 0
HaveTruths table truths = (x : ℕ) → IsTruth (get_or table x None) (truths x)

abbrev pub truth_or_false : Option Bool → Bool
truth_or_false (Some b) = b
truth_or_false None = false

-- the values of a table, false where it has none
abbrev pub truths_in : List (Option Bool) → ℕ → Bool
truths_in table x = truth_or_false (get_or table x None)
