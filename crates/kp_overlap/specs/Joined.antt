-- What holds of each solution while places are joined.
use Rattle.std.specs.Prelude.{◌≡◌, ℕ, List, length, map}
use Rattle.std.specs.List.{AllByRecursion}
use Rattle.kp_kore.specs.Value.{Value}
use Rattle.kp_overlap.specs.Graphs.{IsAt, HasShape}
use Rattle.kp_overlap.specs.Graphs as model
use Rattle.kp_overlap.specs.Labels.{Follows}
use Rattle.kp_overlap.specs.Views.{shape_view}
use Rattle.kp_overlap.specs.declared.graph.PlaceShape.{PlaceShape}
use Rattle.kp_overlap.specs.declared.labels.Pair.{Pair}
use Rattle.kp_overlap.specs.declared.labels.Classes.{Classes}

-- each place has a value of its shape
abbrev pub HaveShapes : (ℕ → Value) → List PlaceShape → Type 0
HaveShapes a xs = (n : ℕ) (s : model.Shape) → IsAt (map shape_view xs) n s → HasShape a s (a n)

-- the two places of each pair have one value
abbrev pub AreOne : (ℕ → Value) → List Pair → Type 0
AreOne a ps = AllByRecursion (λ p. a p.first ≡ a p.second) ps

-- what stands above a place has its value, so has its holder, and pairs that wait have one
pub record AreClasses (a : ℕ → Value) (c : Classes) : Type 0 where
  pub parents : Follows a c.parents.items
  pub holders : Follows a c.holders.items
  pub waiting : AreOne a c.waiting.items

-- it stays so where these pairs are joined
pub record AreJoined (xs : List PlaceShape) (ps : List Pair) (old new : Classes) : Type 0 where
  pub long : length new.parents.items ≡ length old.parents.items
  pub keeps : (a : ℕ → Value) → HaveShapes a xs → AreOne a ps → AreClasses a old → AreClasses a new

-- the label at this place is its own label
abbrev pub IsOwn : List ℕ → ℕ → Type 0
IsOwn ls n = (l : ℕ) → IsAt ls n l → IsAt ls l l

abbrev pub pair_of : ℕ → ℕ → Pair
pair_of n m = record { first = n; second = m }
