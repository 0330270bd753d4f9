-- Comparisons of whole numbers as demands on differences.
-- Source: difference constraints over the whole numbers.
use Rattle.std.specs.Prelude.{◌<◌, ◌^◌, ℕ, ℤ, pos, negsuc, ◌+ℤ◌, ◌-ℤ◌, unsigned_abs, List, [], ◌∷◌}
use Rattle.kp_kore.specs.Hooks.{Comparison, equal, different, less, at_most, greater, at_least}
use Rattle.kp_demands.specs.declared.demand.Demand.{Demand}
use Rattle.kp_demands.specs.declared.demand.Demand.TheVariants.{Bound}
use Rattle.kp_clause_demands.specs.declared.comparing.ComparedPart.{ComparedPart}

-- the number that a side is: the unknown's, and a constant
abbrev pub part_number : (ℕ → ℤ) → ComparedPart → ℤ
part_number wholes m = wholes m.place +ℤ m.constant

-- the one side is at most the other and k
abbrev pub below : ComparedPart → ComparedPart → ℤ → Demand
below m n k = Bound m.place n.place ((n.constant -ℤ m.constant) +ℤ k)

-- the ways for a comparison to hold: a difference has two, an equality one of two bounds
abbrev pub ways_of : Comparison → ComparedPart → ComparedPart → List (List Demand)
ways_of at_most m n = (below m n (pos 0) ∷ []) ∷ []
ways_of less m n = (below m n (negsuc 0) ∷ []) ∷ []
ways_of at_least m n = (below n m (pos 0) ∷ []) ∷ []
ways_of greater m n = (below n m (negsuc 0) ∷ []) ∷ []
ways_of equal m n = (below m n (pos 0) ∷ below n m (pos 0) ∷ []) ∷ []
ways_of different m n = (below m n (negsuc 0) ∷ []) ∷ (below n m (negsuc 0) ∷ []) ∷ []

-- the constants differ by fewer than 2 ^ 126
abbrev pub AreNear : ComparedPart → ComparedPart → Type 0
AreNear m n = unsigned_abs (n.constant -ℤ m.constant) < 2 ^ 126
