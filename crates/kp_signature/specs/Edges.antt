-- Numbers with edges between them, and the numbers of sorts.
use Rattle.std.specs.Prelude.{◌≡◌, ℕ, ◌<◌, List, [], ◌++◌, map, length, get_or, ◌↔◌, ◌⊎◌, Vec}
use Rattle.std.specs.List.{Contains}
use Rattle.std.specs.declared.alloc.Global.{Global}
use Rattle.kp_kore.specs.Syntax.{KoreSort}

abbrev pub edges_of : List (Vec ℕ Global) → List (List ℕ)
edges_of = map (λ v. v.items)

-- an edge from i to j
abbrev pub Leads : List (List ℕ) → ℕ → ℕ → Type 0
Leads edges i j = Contains (get_or edges i []) j

-- j is i, or is reached from i over edges
pub data Reaches (edges : List (List ℕ)) : ℕ → ℕ → Type 0 where
  stays : (i : ℕ) → Reaches edges i i
  goes : (i j k : ℕ) → Leads edges i j → Reaches edges j k → Reaches edges i k

-- j is reached from one of these numbers
abbrev pub IsReachedFrom : List (List ℕ) → List ℕ → ℕ → Type 0
IsReachedFrom edges starts j = (i : ℕ) × Contains starts i × Reaches edges i j

-- the numbers that are added are behind those that were there
pub record Extended (before added after : List ℕ) : Type 0 where
  pub more : List ℕ
  pub is : after ≡ before ++ more
  pub among : (y : ℕ) → Contains more y → Contains added y
  pub all : (y : ℕ) → Contains added y → Contains after y

-- an edge is added
pub record HasEdge (before after : List (List ℕ)) (from to : ℕ) : Type 0 where
  pub same_length : length after ≡ length before
  pub edges : (i j : ℕ) → Leads after i j ↔ (Leads before i j ⊎ ((i ≡ from) × (j ≡ to)))

-- a sort has a number, its place among these
abbrev pub IsNumber : List KoreSort → ℕ → KoreSort → Type 0
IsNumber sorts i a = (i < length sorts) × (get_or sorts i a ≡ a)
