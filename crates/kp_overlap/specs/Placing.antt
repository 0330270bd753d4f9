-- Values of forms, placed in a graph.
-- Source: terms as graphs, a place for each part and one for each variable (Baader, Snyder: Unification theory).
use Rattle.std.specs.Prelude.{◌≡◌, ◌↔◌, ℕ, ◌<◌, ◌≤◌, List, [], ◌∷◌, ◌++◌, length, Option, Some, ⊤, ◌⊎◌}
use Rattle.kp_kore.specs.Syntax.{Text, KoreSort, KoreSorts, no_sorts, next_sort}
use Rattle.kp_kore.specs.Signature.{KoreSignature}
use Rattle.kp_kore.specs.Sorted.{IsSorted}
use Rattle.kp_kore.specs.Value.{Value, Values, no_values, next_value, ArgumentSorts, HasSort}
use Rattle.kp_kore.specs.Instance.{Valuation}
use Rattle.kp_overlap.specs.Graphs.{Shape, never, made, PlacedSort, Graph, values_at, Solves, HasSolution, AreBelow}
use Rattle.kp_rules.specs.Skeletons.{Form, Forms, Admits, AdmitAll}
use Rattle.kp_overlap.specs.Labels.{IsGraph}
use Rattle.kp_overlap.specs.Overlaps.{Overlap}

-- each of the values has some sort
abbrev pub AllSorted : KoreSignature → Values → Type 0
AllSorted g no_values = ⊤
AllSorted g (next_value u us) = IsSorted g u × AllSorted g us

-- ---- graphs with more

-- the graph with one more place of this shape
abbrev pub with_shape : Graph → Shape → Graph
with_shape x s = record { shapes = x.shapes ++ s ∷ []; sorts = x.sorts }

-- the graph with these sorts asked besides
abbrev pub with_sorts : Graph → List PlacedSort → Graph
with_sorts x rs = record { shapes = x.shapes; sorts = x.sorts ++ rs }

-- each sort with the place at its turn
abbrev pub asked : KoreSorts → List ℕ → List PlacedSort
asked (next_sort s ss) (n ∷ ns) = record { place = n; sort = s } ∷ asked ss ns
asked no_sorts ns = []
asked (next_sort s ss) [] = []

-- as many sorts as places
abbrev pub AreAlong : KoreSorts → List ℕ → Type 0
AreAlong no_sorts [] = ⊤
AreAlong (next_sort s ss) (n ∷ ns) = AreAlong ss ns
AreAlong no_sorts (n ∷ ns) = ⊥
AreAlong (next_sort s ss) [] = ⊥

-- the constructor is declared, with these argument sorts, one for each of these places
pub record IsFormed (g : KoreSignature) (f : Text) (ns : List ℕ) (ss : KoreSorts) : Type 0 where
  pub declared : ArgumentSorts g f ss
  pub along : AreAlong ss ns

-- a new place for the constructor's value with these members, where it may have them, else one without a value
abbrev pub IsMade : KoreSignature → Text → List ℕ → Graph → Graph → ℕ → Type 0
IsMade g f ns x y n = (n ≡ length x.shapes)
    × (((ss : KoreSorts) × IsFormed g f ns ss × (y ≡ with_shape (with_sorts x (asked ss ns)) (made f ns)))
    ⊎ (((ss : KoreSorts) → ¬ IsFormed g f ns ss) × (y ≡ with_shape x never)))

-- ---- variables' places

abbrev pub Places : Type 0
Places = Text → Option ℕ

-- each variable stands for its place's value
abbrev pub Agrees : Places → (ℕ → Value) → Valuation → Type 0
Agrees names a v = (name : Text) (p : ℕ) → names name ≡ Some p → v name ≡ a p

abbrev pub AgreesBelow : ℕ → (ℕ → Value) → (ℕ → Value) → Type 0
AgreesBelow k a b = (n : ℕ) → n < k → b n ≡ a n

-- a graph, and variables that have their places in it
pub record IsPlacing (g : KoreSignature) (x : Graph) (names : Places) : Type 0 where
  pub graph : IsGraph g x
  pub within : (name : Text) (p : ℕ) → names name ≡ Some p → p < length x.shapes

-- the second is the first with more
pub record IsMore (g : KoreSignature) (x : Graph) (before : Places) (y : Graph) (after : Places) : Type 0 where
  pub placing : IsPlacing g y after
  pub longer : length x.shapes ≤ length y.shapes
  pub solves : (a : ℕ → Value) → Solves g y a → Solves g x a
  pub agrees : (a : ℕ → Value) (v : Valuation) → Agrees after a v → Agrees before a v

-- the values of the first graph's places stay, and with those of the new ones the second is solved
pub record Reaches (g : KoreSignature) (x y : Graph) (after : Places) (a : ℕ → Value) (v : Valuation) (b : ℕ → Value) : Type 0 where
  pub solves : Solves g y b
  pub agrees : Agrees after b v
  pub below : AgreesBelow (length x.shapes) a b

-- this place has the values that are admitted
pub record PlacesOne (g : KoreSignature) (x : Graph) (before : Places) (y : Graph) (after : Places) (Admit : Valuation → Value → Type 0) (n : ℕ) : Type 0 where
  pub more : IsMore g x before y after
  pub place : n < length y.shapes
  pub tells : (a : ℕ → Value) (v : Valuation) → Solves g y a → Agrees after a v → Admit v (a n)
  pub reaches : (a : ℕ → Value) (v : Valuation) (u : Value) → Solves g x a → Agrees before a v → IsSorted g u → Admit v u → (b : ℕ → Value) × Reaches g x y after a v b × (b n ≡ u)

-- these places have the values that are admitted
pub record PlacesAll (g : KoreSignature) (x : Graph) (before : Places) (y : Graph) (after : Places) (Admit : Valuation → Values → Type 0) (ns : List ℕ) : Type 0 where
  pub more : IsMore g x before y after
  pub places : AreBelow (length y.shapes) ns
  pub tells : (a : ℕ → Value) (v : Valuation) → Solves g y a → Agrees after a v → Admit v (values_at a ns)
  pub reaches : (a : ℕ → Value) (v : Valuation) (us : Values) → Solves g x a → Agrees before a v → AllSorted g us → Admit v us → (b : ℕ → Value) × Reaches g x y after a v b × (values_at b ns ≡ us)

-- ---- values

-- a place for the value, whatever variables there are
abbrev pub PlacesValue : KoreSignature → Graph → Graph → Value → ℕ → Type 0
PlacesValue g x y w n = (names : Places) → IsPlacing g x names → PlacesOne g x names y names (λ v u. u ≡ w) n

abbrev pub PlacesValues : KoreSignature → Graph → Graph → Values → List ℕ → Type 0
PlacesValues g x y ws ns = (names : Places) → IsPlacing g x names → PlacesAll g x names y names (λ v us. us ≡ ws) ns

-- ---- variables

-- a place for the variable's value
abbrev pub PlacesVariable : KoreSignature → Graph → Places → Graph → Places → Text → ℕ → Type 0
PlacesVariable g x before y after name n = IsPlacing g x before → PlacesOne g x before y after (λ v u. u ≡ v name) n

-- where it has the sort
abbrev pub PlacesSortedVariable : KoreSignature → Graph → Places → Graph → Places → Text → KoreSort → ℕ → Type 0
PlacesSortedVariable g x before y after name s n = IsPlacing g x before → PlacesOne g x before y after (λ v u. (u ≡ v name) × HasSort g s u) n

-- a place for a value of the sort
abbrev pub PlacesSorted : KoreSignature → Graph → Graph → KoreSort → ℕ → Type 0
PlacesSorted g x y s n = (names : Places) → IsPlacing g x names → PlacesOne g x names y names (λ v u. HasSort g s u) n

-- ---- forms

-- a place for the value that the form stands for
abbrev pub PlacesForm : KoreSignature → Graph → Places → Graph → Places → Form → ℕ → Type 0
PlacesForm g x before y after k n = IsPlacing g x before → PlacesOne g x before y after (λ v u. Admits g v k u) n

abbrev pub PlacesForms : KoreSignature → Graph → Places → Graph → Places → Forms → List ℕ → Type 0
PlacesForms g x before y after ks ns = IsPlacing g x before → PlacesAll g x before y after (λ v us. AdmitAll g v ks us) ns

-- some value of the sort may stand for both forms exactly where the graph has a solution in which these two places have one value
pub record PlacesBoth (g : KoreSignature) (s : KoreSort) (first second : Form) (x : Graph) (i j : ℕ) : Type 0 where
  pub graph : IsGraph g x
  pub first_place : i < length x.shapes
  pub second_place : j < length x.shapes
  pub exactly : Overlap g s first second ↔ HasSolution g x i j
