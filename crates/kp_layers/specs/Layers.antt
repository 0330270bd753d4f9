-- Claims in layers by what they depend on, and cycles among these. A claim is its number, from 0.
-- Source: this project; a claim is proved after those that it depends on, as pyk's proofs with dependencies are.
use Rattle.std.specs.Prelude.{◌≡◌, ℕ, suc, max, ◌==◌, Bool, List, [], ◌∷◌, map, get_or}
use Rattle.std.specs.List.{Contains}

-- i depends on j at once; needs has for each claim those that it depends on
abbrev pub Needs : List (List ℕ) → ℕ → ℕ → Type 0
Needs needs i j = Contains (get_or needs i []) j

-- i depends on j, at once or over others
pub data DependsOn (needs : List (List ℕ)) : ℕ → ℕ → Type 0 where
  at_once : (i j : ℕ) → Needs needs i j → DependsOn needs i j
  over : (i j k : ℕ) → Needs needs i j → DependsOn needs j k → DependsOn needs i k

-- the highest layer of these claims; 0 of none
abbrev pub highest : List ℕ → List ℕ → ℕ
highest layers [] = 0
highest layers (j ∷ js) = max (get_or layers j 0) (highest layers js)

-- each claim's layer is the next above those of the claims that it depends on; it is 1 where there are none
abbrev pub AreLayers : List (List ℕ) → List ℕ → Type 0
AreLayers needs layers = map (λ js. suc (highest layers js)) needs ≡ layers

-- there is such a claim, and its layer isn't known yet
abbrev pub is_open : List ℕ → ℕ → Bool
is_open layers j = get_or layers j 1 == 0
