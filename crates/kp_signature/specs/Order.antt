-- How the code knows which sorts lie below which: the sorts that pairs name by numbers, with edges between numbers and
-- the numbers below each as spans.
use Rattle.std.specs.Prelude.{◌≡◌, ℕ, List, ◌++◌, length, ◌↔◌}
use Rattle.std.specs.List.{Contains}
use Rattle.kp_kore.specs.Syntax.{KoreSort}
use Rattle.kp_signature.specs.Edges.{edges_of, Leads, Reaches, IsNumber}
use Rattle.kp_signature.specs.Numbering.{IsNumbering, sorts_in}
use Rattle.kp_signature.specs.Spans.{IsSpread}
use Rattle.kp_signature.specs.declared.graph.SortGraph.{SortGraph}
use Rattle.kp_signature.specs.declared.order.SortOrder.{SortOrder}

abbrev pub sorts_of : SortGraph → List KoreSort
sorts_of x = sorts_in x.numbering

-- the sorts of the numbers are a pair
pub record IsPair (pairs : List (KoreSort × KoreSort)) (sorts : List KoreSort) (i j : ℕ) : Type 0 where
  pub lower : KoreSort
  pub upper : KoreSort
  pub first : IsNumber sorts i lower
  pub second : IsNumber sorts j upper
  pub pair : Contains pairs (lower, upper)

-- the sorts of these pairs have numbers, and the edges are the pairs, both ways
pub record IsGraphOf (pairs : List (KoreSort × KoreSort)) (x : SortGraph) : Type 0 where
  pub numbering : IsNumbering x.numbering
  pub named : (a b : KoreSort) → Contains pairs (a, b) → Contains (sorts_of x) a × Contains (sorts_of x) b
  pub above_length : length x.above.items ≡ length (sorts_of x)
  pub below_length : length x.below.items ≡ length (sorts_of x)
  pub above : (i j : ℕ) → Leads (edges_of x.above.items) i j ↔ IsPair pairs (sorts_of x) i j
  pub below : (i j : ℕ) → Leads (edges_of x.below.items) i j ↔ IsPair pairs (sorts_of x) j i

-- more sorts may have numbers than before, and this one has this number
pub record HasNew (pairs : List (KoreSort × KoreSort)) (before : List KoreSort) (x : SortGraph) (a : KoreSort) (i : ℕ) : Type 0 where
  pub more : List KoreSort
  pub is : sorts_of x ≡ before ++ more
  pub number : IsNumber (sorts_of x) i a
  pub kept : IsGraphOf pairs x

-- j is i or lies below it
abbrev pub Under : SortGraph → ℕ → ℕ → Type 0
Under x i j = Reaches (edges_of x.below.items) i j

-- and above it
abbrev pub Over : SortGraph → ℕ → ℕ → Type 0
Over x i j = Reaches (edges_of x.above.items) i j

-- the order that the pairs make
pub record IsOrderOf (pairs : List (KoreSort × KoreSort)) (x : SortOrder) : Type 0 where
  pub graph : IsGraphOf pairs x.graph
  pub spans_length : length x.spans.items ≡ length x.graph.below.items
  pub spread : IsSpread (edges_of x.graph.below.items) x.spans.items
