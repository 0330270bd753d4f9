-- One label for all places of one value, and what tells that a graph has a solution, or none.
-- Source: unification on term graphs: classes of nodes, without clash and without circle (Baader, Snyder: Unification theory).
use Rattle.std.specs.Prelude.{◌≡◌, ℕ, ◌<◌, List, [], ◌∷◌, length, Option, Some, None, ⊤}
use Rattle.std.specs.List.{AllByRecursion, Contains}
use Rattle.kp_kore.specs.Syntax.{Text, KoreSort, KoreSorts, no_sorts, next_sort}
use Rattle.kp_kore.specs.Signature.{KoreSignature, constructor_of, IsHeadOf}
use Rattle.kp_kore.specs.Value.{Value, head_of, HasSort, ArgumentSorts}
use Rattle.kp_overlap.specs.Graphs.{IsAt, Shape, any_value, never, leaf, made, PlacedSort, Graph, IsSolution, IsLeafValue, AreBelow}

-- ---- graphs

-- each of these places has the sort that stands in its place
abbrev pub AreAsked : Graph → KoreSorts → List ℕ → Type 0
AreAsked x no_sorts [] = ⊤
AreAsked x (next_sort s ss) (n ∷ ns) = Contains x.sorts (record { place = n; sort = s }) × AreAsked x ss ns
AreAsked x no_sorts (n ∷ ns) = ⊥
AreAsked x (next_sort s ss) [] = ⊥

abbrev pub IsShapeIn : KoreSignature → Graph → Shape → Type 0
IsShapeIn g x any_value = ⊤
IsShapeIn g x never = ⊤
IsShapeIn g x (leaf w) = IsLeafValue w
IsShapeIn g x (made f ns) = AreBelow (length x.shapes) ns × (ss : KoreSorts) × ArgumentSorts g f ss × AreAsked x ss ns

-- members are places of the graph, and have the sorts of the constructor's arguments
pub record IsGraph (g : KoreSignature) (x : Graph) : Type 0 where
  pub shapes : (n : ℕ) (s : Shape) → IsAt x.shapes n s → IsShapeIn g x s
  pub sorts : (r : PlacedSort) → Contains x.sorts r → r.place < length x.shapes

-- ---- labels

-- each place has its label's value
abbrev pub Follows : (ℕ → Value) → List ℕ → Type 0
Follows a ls = (n l : ℕ) → IsAt ls n l → a n ≡ a l

-- so it is in each solution
pub record AreLabels (g : KoreSignature) (x : Graph) (i j : ℕ) (ls : List ℕ) : Type 0 where
  pub long : length ls ≡ length x.shapes
  pub follow : (a : ℕ → Value) → IsSolution g x i j a → Follows a ls

abbrev pub HaveOneLabel : List ℕ → ℕ → ℕ → Type 0
HaveOneLabel ls n m = (l : ℕ) × IsAt ls n l × IsAt ls m l

-- a label is its own label, and these two places have one
pub record AreSettled (ls : List ℕ) (i j : ℕ) : Type 0 where
  pub own : (n l : ℕ) → IsAt ls n l → IsAt ls l l
  pub same : HaveOneLabel ls i j

-- ---- holders

-- the members stand under one label each
abbrev pub HaveOneLabelEach : List ℕ → List ℕ → List ℕ → Type 0
HaveOneLabelEach ls [] [] = ⊤
HaveOneLabelEach ls (n ∷ ns) (m ∷ ms) = HaveOneLabel ls n m × HaveOneLabelEach ls ns ms
HaveOneLabelEach ls [] (m ∷ ms) = ⊥
HaveOneLabelEach ls (n ∷ ns) [] = ⊥

-- both shapes ask for the same value, or for the same constructor, with members under one label each
abbrev pub SaySame : List ℕ → Shape → Shape → Type 0
SaySame ls (leaf u) (leaf w) = u ≡ w
SaySame ls (made f ns) (made h ms) = (f ≡ h) × HaveOneLabelEach ls ns ms
SaySame ls s t = ⊥

-- it tells a head
abbrev pub IsClosed : Shape → Type 0
IsClosed (leaf u) = ⊤
IsClosed (made f ns) = ⊤
IsClosed s = ⊥

-- each label under which a place tells a head has one such place, its holder, and all others there say the same
pub record AreHolders (x : Graph) (ls : List ℕ) (hs : List (Option ℕ)) : Type 0 where
  pub long : length hs ≡ length ls
  pub none_never : (n : ℕ) → ¬ IsAt x.shapes n never
  pub held : (n l : ℕ) (s : Shape) → IsAt x.shapes n s → IsClosed s → IsAt ls n l → (h : ℕ) × (t : Shape) × IsAt hs l (Some h) × IsAt x.shapes h t × SaySame ls s t
  pub holds : (l h : ℕ) → IsAt hs l (Some h) → (t : Shape) × IsAt x.shapes h t × IsClosed t × IsAt ls h l

-- ---- ranks

abbrev pub StandBefore : List ℕ → List (Option ℕ) → ℕ → List ℕ → Type 0
StandBefore ls rs k ns = AllByRecursion (λ m. (l : ℕ) × (p : ℕ) × IsAt ls m l × IsAt rs l (Some p) × (p < k)) ns

-- each label has a rank, above those of its holder's members
pub record AreRanked (x : Graph) (ls : List ℕ) (hs rs : List (Option ℕ)) : Type 0 where
  pub all : (l : ℕ) → l < length ls → (k : ℕ) × IsAt rs l (Some k)
  pub before : (l h k : ℕ) (f : Text) (ns : List ℕ) → IsAt hs l (Some h) → IsAt x.shapes h (made f ns) → IsAt rs l (Some k) → StandBefore ls rs k ns

-- ---- sorts

abbrev pub HasHeadOf : KoreSignature → KoreSort → Shape → Type 0
HasHeadOf g s (leaf u) = IsHeadOf g s (head_of u)
HasHeadOf g s (made f ns) = IsHeadOf g s (constructor_of f)
HasHeadOf g s t = ⊥

-- the sorts under a label have its holder's head; where it has none, some value has all of them
pub record DoSortsFit (g : KoreSignature) (x : Graph) (ls : List ℕ) (hs : List (Option ℕ)) : Type 0 where
  pub closed : (r : PlacedSort) → Contains x.sorts r → (l h : ℕ) (t : Shape) → IsAt ls r.place l → IsAt hs l (Some h) → IsAt x.shapes h t → HasHeadOf g r.sort t
  pub any_value : (l : ℕ) → IsAt hs l None → (u : Value) × ((r : PlacedSort) → Contains x.sorts r → IsAt ls r.place l → HasSort g r.sort u)
