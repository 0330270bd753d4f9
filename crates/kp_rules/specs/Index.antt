-- How the code knows what splits: by numbers of sorts, with edges between numbers.
use Rattle.std.specs.Prelude.{◌≡◌, ℕ, ◌<◌, Bool, true, false, List, [], ◌∷◌, ◌++◌, length, get_or, IsTrue, ◌↔◌, ◌⊎◌, Vec, Option, Some, None}
use Rattle.std.specs.Option.{option_and_then}
use Rattle.std.specs.List.{Contains}
use Rattle.std.specs.declared.alloc.Global.{Global}
use Rattle.kp_kore.specs.Syntax.{Text, KoreSort, KorePattern, variable, KorePatterns, no_patterns, next_pattern, SymbolDeclaration}
use Rattle.kp_kore.specs.Signature.{KoreSignature, Head, IsSortOfHead, has_literals, SymbolMeaning, construction, symbol_declared, symbol_meaning}
use Rattle.kp_signature.specs.Edges.{edges_of, Leads, Reaches, IsNumber}
use Rattle.kp_signature.specs.Order.{IsOrderOf, sorts_of}
use Rattle.kp_signature.specs.Order as order
use Rattle.kp_signature.specs.declared.graph.SortGraph.{SortGraph}
use Rattle.kp_signature.specs.declared.order.SortOrder.{SortOrder}
use Rattle.kp_rules.specs.declared.sort_index.SortIndex.{SortIndex}

-- ---- what splits, by numbers

-- the edges downwards, and upwards
abbrev pub down : SortIndex → List (List ℕ)
down x = edges_of x.order.now.graph.below.items

abbrev pub up : SortIndex → List (List ℕ)
up x = edges_of x.order.now.graph.above.items

-- j is i or lies below it
abbrev pub Under : SortIndex → ℕ → ℕ → Type 0
Under x i j = Reaches (down x) i j

-- and above it
abbrev pub Over : SortIndex → ℕ → ℕ → Type 0
Over x i j = Reaches (up x) i j

-- the two lists of edges are each other's opposites
abbrev pub AreOpposite : SortIndex → Type 0
AreOpposite x = (i j : ℕ) → Leads (down x) i j ↔ Leads (up x) j i

-- some head has this sort for its own
abbrev pub OwnsHeads : SortIndex → ℕ → Type 0
OwnsHeads x i = IsTrue (get_or x.heads.items i false)

-- o lies below both and has heads
pub record IsShared (x : SortIndex) (t i o : ℕ) : Type 0 where
  pub heads : OwnsHeads x o
  pub first : Under x t o
  pub second : Under x i o

-- a number below both, above all that they share
pub record NumberMeet (x : SortIndex) (t i : ℕ) : Type 0 where
  pub number : ℕ
  pub first : Under x t number
  pub second : Under x i number
  pub all : (o : ℕ) → IsShared x t i o → Under x number o

abbrev pub NumbersSplit : SortIndex → ℕ → ℕ → Type 0
NumbersSplit x t u = (i : ℕ) → Under x u i → (o : ℕ) → IsShared x t i o → NumberMeet x t i

-- the same of one number and of sets
pub record SetMeet (x : SortIndex) (i : ℕ) (below heads : List ℕ) : Type 0 where
  pub number : ℕ
  pub under : Under x i number
  pub among : Contains below number
  pub all : (o : ℕ) → Contains heads o → Under x i o → Under x number o

-- a number below u is below or above t, or has a meet with t
abbrev pub IsSettled : SortIndex → ℕ → List ℕ → List ℕ → List ℕ → List ℕ → Type 0
IsSettled x i under below above heads = Contains under i → (Contains below i ⊎ Contains above i) ⊎ SetMeet x i below heads

-- the number is among these, and all others are below it
abbrev pub Covers : SortIndex → ℕ → List ℕ → List ℕ → Type 0
Covers x i among others = Contains among i × ((o : ℕ) → Contains others o → Under x i o)

-- over none of these are all those others
abbrev pub AreNotOver : SortIndex → List ℕ → List ℕ → Type 0
AreNotOver x others failed = (i : ℕ) → Contains failed i → ¬ ((o : ℕ) → Contains others o → Under x i o)

-- ---- sorts that share lower sorts with comparable ones alone

-- j lies below each sort that shares a lower sort with it, or above it
abbrev pub IsAlone : SortGraph → ℕ → Type 0
IsAlone x i = (o j : ℕ) → order.Under x i o → order.Under x j o → order.Under x i j ⊎ order.Under x j i

-- one number behind this lies below all that are directly above this
abbrev pub IsNarrow : SortGraph → ℕ → Type 0
IsNarrow x i = (least : ℕ) × (i < least) × ((j : ℕ) → Leads (edges_of x.above.items) i j → order.Under x j least)

-- each number that is marked is such a number
abbrev pub MarksOnly : (ℕ → Type 0) → List Bool → Type 0
MarksOnly IsSuch marks = (i : ℕ) → IsTrue (get_or marks i false) → IsSuch i

-- all that lie directly below a marked number are smaller, marked, and narrow by the other marks
abbrev pub AreStraightBy : List (Vec ℕ Global) → List Bool → List Bool → Type 0
AreStraightBy below narrow marks = (i j : ℕ) → IsTrue (get_or marks i false) → Leads (edges_of below) i j → (j < i) × IsTrue (get_or marks j false) × IsTrue (get_or narrow j false)

-- ---- an index of a signature's sorts

-- some head has the sort for its own
abbrev pub HasOwnHeads : KoreSignature → KoreSort → Type 0
HasOwnHeads g a = (h : Head) × IsSortOfHead g h a

-- the index of a signature: its order, which sorts own heads, and which are marked as alone
pub record IsIndexOf (g : KoreSignature) (x : SortIndex) : Type 0 where
  pub order : IsOrderOf g.subsorts x.order.now
  pub heads : (i : ℕ) (a : KoreSort) → IsNumber (sorts_of x.order.now.graph) i a → OwnsHeads x i ↔ HasOwnHeads g a
  pub alone : (i : ℕ) → IsTrue (get_or x.alone.items i false) → IsAlone x.order.now.graph i

-- ---- marks that are being made

-- the result sort of a constructor of this name
abbrev pub result_where : SymbolMeaning → KoreSort → Option KoreSort
result_where construction s = Some s
result_where _ s = None

abbrev pub constructed_sort : KoreSignature → Text → Option KoreSort
constructed_sort g name = option_and_then (λ d. result_where (symbol_meaning g d) d.result) (symbol_declared g name)

-- a sort has literals, or is the result sort of a constructor that one of these declarations names
abbrev pub OwnsBy : KoreSignature → List SymbolDeclaration → KoreSort → Type 0
OwnsBy g ds a = IsTrue (has_literals g a) ⊎ ((d : SymbolDeclaration) × Contains ds d × (constructed_sort g d.name ≡ Some a))

-- the numbers of the sorts that own heads by these declarations are marked
pub record AreMarked (g : KoreSignature) (ds : List SymbolDeclaration) (sorts : List KoreSort) (marks : List Bool) : Type 0 where
  pub as_many : length marks ≡ length sorts
  pub told : (i : ℕ) (a : KoreSort) → IsNumber sorts i a → IsTrue (get_or marks i false) ↔ OwnsBy g ds a

-- where the marks before are those of the order's sorts by these declarations, the marks after are those by one more
abbrev pub MarksOneMore : KoreSignature → SortOrder → List SymbolDeclaration → SymbolDeclaration → List Bool → List Bool → Type 0
MarksOneMore g x ds d before after = IsOrderOf g.subsorts x → AreMarked g ds (sorts_of x.graph) before → AreMarked g (ds ++ d ∷ []) (sorts_of x.graph) after

-- ---- a variable under inj

abbrev pub is_variable : KorePattern → Bool
is_variable (variable x s) = true
is_variable _ = false

abbrev pub is_one_variable : KorePatterns → Bool
is_one_variable (next_pattern p no_patterns) = is_variable p
is_one_variable _ = false
