-- Parts of a symbolic state, and what it is that they divide it.
-- Source: narrowing; K's Haskell backend, which splits a configuration by a rule's left side; this project.
use Rattle.std.specs.Prelude.{◌≡◌, ◌↔◌, List, [], ◌∷◌, ◌++◌, ⊤, false}
use Rattle.std.specs.List.{AllByRecursion, list_any}
use Rattle.std.specs.Str.{bytes_eq}
use Rattle.kp_kore.specs.Syntax.{Text}
use Rattle.kp_kore.specs.Parts.{SortedName}
use Rattle.kp_kore.specs.Signature.{KoreSignature}
use Rattle.kp_kore.specs.Value.{Value, HasSort}
use Rattle.kp_kore.specs.Instance.{Valuation, GivesSorts, AgreesOn, is_named}
use Rattle.kp_kore.specs.Replies.{IsFreshName}
use Rattle.kp_kore.specs.Division.{Reading, IsPartOf, Divides}
use Rattle.kp_symbolic.specs.States.{Literal, AreTrue, SymbolicState, IsStateInstance}
use Rattle.kp_symbolic.specs.Clauses.{without_repeats}
use Rattle.kp_symbolic_laws.specs.Runs.{IsSortedLiteral, IsSortedState}

-- a state, and the clauses that were added to the state that it is a part of
pub record StatePart : Type 0 where
  pub state : SymbolicState
  pub added : List (List Literal)

-- the scope of a part are its variables at hand
abbrev pub state_reading : KoreSignature → Reading StatePart
state_reading g = record {
  scope = λ p. p.state.variables;
  has = λ p v c. IsStateInstance g v p.state c;
  added = λ p v. AreTrue g v p.added;
}

-- the whole state, to which nothing was added
abbrev pub whole : SymbolicState → StatePart
whole s = record { state = s; added = [] }

-- of each instance of the part, under each valuation of its variables
abbrev pub OfEachInstance : KoreSignature → StatePart → (Valuation → Value → Type 0) → Type 0
OfEachInstance g p P = (w : Valuation) (c : Value) → GivesSorts g w p.state.variables → IsStateInstance g w p.state c → P w c

-- r is a part of p: what was added before stays as it stands, and more stands behind it
pub record IsPartBelow (g : KoreSignature) (p r : StatePart) : Type 0 where
  pub part : IsPartOf (state_reading g) g p r
  pub more : List (List Literal)
  pub grown : r.added ≡ p.added ++ more

-- each instance of p of which Q holds lies in exactly one of the parts
pub record IsDividedWhere (g : KoreSignature) (Q : Value → Type 0) (p : StatePart) (parts : List StatePart) : Type 0 where
  pub below : AllByRecursion (IsPartBelow g p) parts
  pub each : Divides (state_reading g) g Q p parts

abbrev pub IsDivided : KoreSignature → StatePart → List StatePart → Type 0
IsDivided g p parts = IsDividedWhere g (λ c. ⊤) p parts

-- ---- parts by further clauses

-- r has the instances of p under which these clauses are true, and these variables more; they were added
pub record IsRestricted (g : KoreSignature) (p : StatePart) (clauses : List (List Literal)) (new : List SortedName) (r : StatePart) : Type 0 where
  pub variables : r.state.variables ≡ p.state.variables ++ new
  pub instances : (w : Valuation) (c : Value) → GivesSorts g w r.state.variables →
      IsStateInstance g w r.state c ↔ (IsStateInstance g w p.state c × AreTrue g w clauses)
  pub added : r.added ≡ p.added ++ clauses

-- the part by these clauses, which stand behind its own, each once
abbrev pub with_clauses : StatePart → List (List Literal) → StatePart
with_clauses p clauses = record {
  state = record { term = p.state.term; sort = p.state.sort; clauses = without_repeats (p.state.clauses ++ clauses); variables = p.state.variables };
  added = p.added ++ clauses;
}

-- what was added is true of each instance
abbrev pub IsTold : KoreSignature → StatePart → Type 0
IsTold g p = OfEachInstance g p (λ w c. AreTrue g w p.added)

-- which instances the state has depends on the variables at hand alone
abbrev pub DependsOnHand : KoreSignature → SymbolicState → Type 0
DependsOnHand g s = (v w : Valuation) (c : Value) → AgreesOn s.variables v w → IsStateInstance g v s c → IsStateInstance g w s c

-- Q holds of an instance of the part exactly where the clauses are true
abbrev pub HoldsWhere : KoreSignature → (Value → Type 0) → StatePart → List (List Literal) → Type 0
HoldsWhere g Q p clauses = OfEachInstance g p (λ w c. Q c ↔ AreTrue g w clauses)

-- ---- what else holds of parts

-- its state, and what was added, have the sorts of their places, of variables at hand
pub record IsSortedPart (g : KoreSignature) (p : StatePart) : Type 0 where
  pub state : IsSortedState g p.state
  pub added : AllByRecursion (AllByRecursion (IsSortedLiteral g p.state.variables)) p.added

-- none of these names stands in the scope, and each once
abbrev pub AreNew : List SortedName → List SortedName → Type 0
AreNew scope [] = ⊤
AreNew scope (y ∷ new) = (is_named y.name scope ≡ false) × (is_named y.name new ≡ false) × AreNew scope new

-- a new variable is named Fresh and a number, has none of the names in use, and its sort has a value
abbrev pub IsNewVariable : KoreSignature → List Text → SortedName → Type 0
IsNewVariable g used y = IsFreshName y.name × (list_any (bytes_eq y.name) used ≡ false) × (u : Value) × HasSort g y.sort u

-- r has the variables of p, and such new ones behind them
pub record IsGrown (g : KoreSignature) (used : List Text) (p r : StatePart) : Type 0 where
  pub new : List SortedName
  pub variables : r.state.variables ≡ p.state.variables ++ new
  pub are_new : AreNew p.state.variables new
  pub each : AllByRecursion (IsNewVariable g used) new
