-- Ranks of labels, and labels that are made of each other.
-- Source: unification on term graphs, the circle that has no finite value (Baader, Snyder: Unification theory).
use Rattle.std.specs.Prelude.{ℕ, ◌<◌, List, length, Option, Some, None, ◌⊎◌}
use Rattle.std.specs.List.{Contains}
use Rattle.kp_kore.specs.Syntax.{Text}
use Rattle.kp_kore.specs.Signature.{KoreSignature}
use Rattle.kp_overlap.specs.Graphs.{IsAt, Shape, any_value, never, leaf, made, Graph, HasSolution}
use Rattle.kp_overlap.specs.Labels.{StandBefore, AreRanked}
use Rattle.kp_overlap.specs.declared.ranks.Ranks.{Ranks}
use Rattle.kp_overlap.specs.declared.ranks.Ranks.TheVariants.{Circle, Ranked}

abbrev pub members : Shape → Option (List ℕ)
members (made f ns) = Some ns
members any_value = None
members never = None
members (leaf w) = None

-- the label's holder is made of these members
abbrev pub IsMadeOf : List Shape → List (Option ℕ) → ℕ → List ℕ → Type 0
IsMadeOf ss hs l ns = (h : ℕ) × (f : Text) × IsAt hs l (Some h) × IsAt ss h (made f ns)

abbrev pub HasRank : List (Option ℕ) → ℕ → Type 0
HasRank rs l = (k : ℕ) × IsAt rs l (Some k)

-- the rank of the place's label
abbrev pub HasLabelRank : List ℕ → List (Option ℕ) → ℕ → ℕ → Type 0
HasLabelRank ls rs m p = (l : ℕ) × IsAt ls m l × IsAt rs l (Some p)

-- it is below this one
abbrev pub IsBefore : List ℕ → List (Option ℕ) → ℕ → ℕ → Type 0
IsBefore ls rs k m = (l : ℕ) × (p : ℕ) × IsAt ls m l × IsAt rs l (Some p) × (p < k)

-- the label has a rank above those of its holder's members
abbrev pub IsRanked : List Shape → List ℕ → List (Option ℕ) → List (Option ℕ) → ℕ → Type 0
IsRanked ss ls hs rs l = (k : ℕ) × IsAt rs l (Some k) × ((ns : List ℕ) → IsMadeOf ss hs l ns → StandBefore ls rs k ns)

-- the place's label has no rank
abbrev pub Waits : List ℕ → List (Option ℕ) → ℕ → Type 0
Waits ls rs m = (p : ℕ) → ¬ HasLabelRank ls rs m p

abbrev pub SomeWaits : List ℕ → List (Option ℕ) → List ℕ → Type 0
SomeWaits ls rs ns = (m : ℕ) × Contains ns m × Waits ls rs m

-- the label has a rank, or its holder has a member whose label has none
abbrev pub IsRankedOrWaits : List Shape → List ℕ → List (Option ℕ) → List (Option ℕ) → ℕ → Type 0
IsRankedOrWaits ss ls hs rs l = HasRank rs l ⊎ ((ns : List ℕ) × IsMadeOf ss hs l ns × SomeWaits ls rs ns)

-- some label has no rank, and each such has a member whose label has none
pub record IsCircle (x : Graph) (ls : List ℕ) (hs rs : List (Option ℕ)) : Type 0 where
  pub label : ℕ
  pub within : label < length ls
  pub unranked : ¬ HasRank rs label
  pub all : (l : ℕ) → l < length ls → IsRankedOrWaits x.shapes ls hs rs l

-- a circle says that there is no solution
abbrev pub TellsRanks : KoreSignature → Graph → ℕ → ℕ → List ℕ → List (Option ℕ) → Ranks → Type 0
TellsRanks g x i j ls hs Circle = ¬ HasSolution g x i j
TellsRanks g x i j ls hs (Ranked rs) = AreRanked x ls hs rs.items
