-- The sorts under a label: when its holder's head is among those of each, and when some value has all of them.
-- Source: order-sorted unification (Baader, Snyder: Unification theory).
use Rattle.std.specs.Prelude.{◌↔◌, ℕ, ◌<◌, Bool, true, false, List, [], get_or, Option, Some, None}
use Rattle.std.specs.List.{AllByRecursion}
use Rattle.kp_kore.specs.Syntax.{KoreSort}
use Rattle.kp_kore.specs.Signature.{KoreSignature, Head, IsHeadOf}
use Rattle.kp_kore.specs.Value.{Value, HasSort}
use Rattle.kp_signature.specs.Edges.{Leads, HasEdge}
use Rattle.kp_overlap.specs.Graphs.{IsAt, Shape, PlacedSort, Graph, HasSolution}
use Rattle.kp_overlap.specs.Labels.{HasHeadOf, DoSortsFit}

-- the head, the value is of the sort of this number
abbrev pub HasHeadAt : KoreSignature → List PlacedSort → Head → ℕ → Type 0
HasHeadAt g rs k n = (r : PlacedSort) × IsAt rs n r × IsHeadOf g r.sort k

abbrev pub HasSortAt : KoreSignature → List PlacedSort → Value → ℕ → Type 0
HasSortAt g rs u n = (r : PlacedSort) × IsAt rs n r × HasSort g r.sort u

-- some value has the sorts of these numbers
abbrev pub HaveValue : KoreSignature → List PlacedSort → List ℕ → Type 0
HaveValue g rs ns = (u : Value) × AllByRecursion (HasSortAt g rs u) ns

-- some value of this sort has
abbrev pub HaveValueOf : KoreSignature → KoreSort → List PlacedSort → List ℕ → Type 0
HaveValueOf g s rs ns = (u : Value) × HasSort g s u × AllByRecursion (HasSortAt g rs u) ns

-- ---- groups

-- the sort of this number is that of a place with the label
abbrev pub IsUnder : List ℕ → List PlacedSort → ℕ → ℕ → Type 0
IsUnder ls rs l n = (r : PlacedSort) × IsAt rs n r × IsAt ls r.place l

-- for each label the numbers of the sorts under it
abbrev pub AreGroups : List ℕ → List PlacedSort → List (List ℕ) → Type 0
AreGroups ls rs gs = (l n : ℕ) → Leads gs l n ↔ IsUnder ls rs l n

-- those of the sorts before this one
abbrev pub AreGroupsBefore : List ℕ → List PlacedSort → ℕ → List (List ℕ) → Type 0
AreGroupsBefore ls rs k gs = (l n : ℕ) → Leads gs l n ↔ ((n < k) × IsUnder ls rs l n)

-- the number was added to the group of the place's label
abbrev pub IsGrouped : List ℕ → ℕ → ℕ → List (List ℕ) → List (List ℕ) → Type 0
IsGrouped ls place n before after = (l : ℕ) × IsAt ls place l × HasEdge before after l n

-- ---- what is told

-- the holder of the place's label
abbrev pub IsHolderOf : List ℕ → List (Option ℕ) → ℕ → ℕ → Type 0
IsHolderOf ls hs place h = (l : ℕ) × IsAt ls place l × IsAt hs l (Some h)

-- the sort has the head that the shape of this place tells
abbrev pub HasHeadTold : KoreSignature → List Shape → KoreSort → ℕ → Type 0
HasHeadTold g ss s h = (t : Shape) → IsAt ss h t → HasHeadOf g s t

-- that of its label's holder
abbrev pub Fits : KoreSignature → List Shape → List ℕ → List (Option ℕ) → PlacedSort → Type 0
Fits g ss ls hs r = (h : ℕ) → IsHolderOf ls hs r.place h → HasHeadTold g ss r.sort h

-- some value has the sorts of the group of each of these labels that has no holder
abbrev pub FitBelow : KoreSignature → List PlacedSort → List (Option ℕ) → List (List ℕ) → ℕ → Type 0
FitBelow g rs hs gs k = (l : ℕ) → l < k → IsAt hs l None → HaveValue g rs (get_or gs l [])

abbrev pub AllFit : KoreSignature → List PlacedSort → List (Option ℕ) → List (List ℕ) → Type 0
AllFit g rs hs gs = (l : ℕ) → IsAt hs l None → HaveValue g rs (get_or gs l [])

abbrev pub TellsSorts : KoreSignature → Graph → ℕ → ℕ → List ℕ → List (Option ℕ) → Bool → Type 0
TellsSorts g x i j ls hs true = DoSortsFit g x ls hs
TellsSorts g x i j ls hs false = ¬ HasSolution g x i j
