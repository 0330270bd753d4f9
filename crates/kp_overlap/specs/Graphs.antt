-- A graph of places: each has a shape, and sorts that its value has.
-- Source: unification on term graphs (Baader, Snyder: Unification theory).
use Rattle.std.specs.Prelude.{◌≡◌, ℕ, ◌<◌, List, [], ◌∷◌, length, get_or, ⊤}
use Rattle.std.specs.List.{Contains}
use Rattle.kp_kore.specs.Syntax.{Text, KoreSort}
use Rattle.kp_kore.specs.Signature.{KoreSignature}
use Rattle.kp_kore.specs.Value.{Value, constructed, Values, no_values, next_value, HasSort}

-- what stands at a place of a list
abbrev pub IsAt : {X : Type 0} → List X → ℕ → X → Type 0
IsAt xs n x = (n < length xs) × (get_or xs n x ≡ x)

pub data Shape : Type 0 where
  -- any value, or none
  any_value never : Shape
  -- this value, which has no members
  leaf : Value → Shape
  -- the constructor with the values of these places
  made : Text → List ℕ → Shape

pub record PlacedSort : Type 0 where
  pub place : ℕ
  pub sort : KoreSort

pub record Graph : Type 0 where
  pub shapes : List Shape
  pub sorts : List PlacedSort

-- the values of these places, where each place has one
abbrev pub values_at : (ℕ → Value) → List ℕ → Values
values_at a [] = no_values
values_at a (n ∷ ns) = next_value (a n) (values_at a ns)

abbrev pub HasShape : (ℕ → Value) → Shape → Value → Type 0
HasShape a any_value u = ⊤
HasShape a never u = ⊥
HasShape a (leaf w) u = u ≡ w
HasShape a (made f ns) u = u ≡ constructed f (values_at a ns)

-- each place has a value of its shape and sorts
pub record Solves (g : KoreSignature) (x : Graph) (a : ℕ → Value) : Type 0 where
  pub shapes : (n : ℕ) (s : Shape) → IsAt x.shapes n s → HasShape a s (a n)
  pub sorts : (r : PlacedSort) → Contains x.sorts r → HasSort g r.sort (a r.place)

-- and these two have the same
pub record IsSolution (g : KoreSignature) (x : Graph) (i j : ℕ) (a : ℕ → Value) : Type 0 where
  pub solves : Solves g x a
  pub same : a i ≡ a j

abbrev pub HasSolution : KoreSignature → Graph → ℕ → ℕ → Type 0
HasSolution g x i j = (a : ℕ → Value) × IsSolution g x i j a

-- ---- graphs that are made from values

-- a value without members
abbrev pub IsLeafValue : Value → Type 0
IsLeafValue (constructed c us) = ⊥
IsLeafValue u = ⊤

abbrev pub AreBelow : ℕ → List ℕ → Type 0
AreBelow k [] = ⊤
AreBelow k (n ∷ ns) = (n < k) × AreBelow k ns

abbrev pub IsShapeBelow : ℕ → Shape → Type 0
IsShapeBelow k any_value = ⊤
IsShapeBelow k never = ⊤
IsShapeBelow k (leaf w) = IsLeafValue w
IsShapeBelow k (made f ns) = AreBelow k ns
