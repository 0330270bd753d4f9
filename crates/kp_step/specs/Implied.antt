-- What follows of the clauses of a state, where two of them are equalities with a side in common.
-- Source: equality is symmetric and transitive; this project.
use Rattle.std.specs.Prelude.{◌≡◌, ◌⊎◌, Bool, true, IsTrue, List, [], ◌∷◌, Vec, Result, IfOk}
use Rattle.std.specs.List.{AllByRecursion}
use Rattle.std.specs.declared.alloc.Global.{Global}
use Rattle.kp_kore.specs.Syntax.{KoreSort}
use Rattle.kp_kore.specs.Parts.{SortedName}
use Rattle.kp_kore.specs.Signature.{KoreSignature}
use Rattle.kp_kore.specs.Instance.{Valuation, GivesSorts}
use Rattle.kp_kore.specs.Steps.{AnyByRecursion}
use Rattle.kp_kore.specs.View.{sort_view}
use Rattle.kp_symbolic.specs.Terms.{SymbolicTerm}
use Rattle.kp_symbolic.specs.States.{same, Literal, AreTrue, SymbolicState, CanBeTrue}
use Rattle.kp_symbolic.specs.View.{term_view, clauses_view, state_view}
use Rattle.kp_symbolic.specs.declared.clause.Clause.{Clause}
use Rattle.kp_symbolic.specs.declared.state.State.{State}
use Rattle.kp_symbolic_laws.specs.Runs.{IsSortedLiteral}
use Rattle.kp_case_laws.specs.Courses.{Equality}
use Rattle.kp_satisfiability.specs.Read.{HasSortedClauses}
use Rattle.kp_unify.specs.Views.{signature_of}
use Rattle.kp_unify.specs.declared.part.Setting.{Setting}
use Rattle.kp_step.specs.Answers.{ShowsOf, IsRightAnswerOf}
use Rattle.kp_step.specs.declared.part_answers.PartAnswer.{PartAnswer}
use Rattle.kp_step.specs.declared.part_answers.UndecidedClauses.{UndecidedClauses}
use Rattle.kp_step.specs.declared.call_equalities.EqualSides.{EqualSides}

-- ---- what clauses say

-- the clause of one literal, that the terms are equal
abbrev pub equality_alone : Equality → List Literal
equality_alone e = record { holds = true; atom = same e.sort e.left e.right } ∷ []

-- which equality the code's is
abbrev pub equal_sides_view : EqualSides → Equality
equal_sides_view e = record { sort = sort_view e.sort.now; left = term_view e.left.now; right = term_view e.right.now }

-- the clause is that the terms are equal, in one order or the other
abbrev pub SaysEqual : KoreSort → SymbolicTerm → SymbolicTerm → List Literal → Type 0
SaysEqual s t u c = (c ≡ record { holds = true; atom = same s t u } ∷ []) ⊎ (c ≡ record { holds = true; atom = same s u t } ∷ [])

-- one of the clauses is that
abbrev pub IsSaidEqual : List (List Literal) → KoreSort → SymbolicTerm → SymbolicTerm → Type 0
IsSaidEqual cs s t u = AnyByRecursion (SaysEqual s t u) cs

-- the clause is one of these
abbrev pub StandsAmong : List (List Literal) → List Literal → Type 0
StandsAmong cs c = AnyByRecursion (λ d. d ≡ c) cs

-- ---- what follows of them

-- the literals have the sorts of their places, and their variables are at hand
abbrev pub AreSortedClauses : KoreSignature → List SortedName → List (List Literal) → Type 0
AreSortedClauses g hand cs = AllByRecursion (AllByRecursion (IsSortedLiteral g hand)) cs

-- clauses that have the sorts of their places where the others have; under each valuation that makes the others true, they are too
pub record FollowFrom (g : KoreSignature) (cs more : List (List Literal)) : Type 0 where
  pub sorted : (hand : List SortedName) → AreSortedClauses g hand cs → AreSortedClauses g hand more
  pub are_true : (hand : List SortedName) (w : Valuation) → AreSortedClauses g hand cs → GivesSorts g w hand → AreTrue g w cs → AreTrue g w more

-- they follow, where one of the clauses says that the terms are equal
abbrev pub FollowIfSaid : KoreSignature → List Clause → KoreSort → SymbolicTerm → SymbolicTerm → Vec Clause Global → Type 0
FollowIfSaid g clauses s t u more = let cs = clauses_view clauses in IsSaidEqual cs s t u → FollowFrom g cs (clauses_view more.items)

-- they follow, where this is one of the clauses
abbrev pub FollowIfAmong : KoreSignature → List Clause → List Literal → Vec Clause Global → Type 0
FollowIfAmong g clauses c more = let cs = clauses_view clauses in StandsAmong cs c → FollowFrom g cs (clauses_view more.items)

-- where the clauses of the state can be true, those of the other can
pub record CanBeAsWell (g : KoreSignature) (s r : SymbolicState) : Type 0 where
  pub sorted : HasSortedClauses g s → HasSortedClauses g r
  pub can_be : HasSortedClauses g s → CanBeTrue g s.variables s.clauses → CanBeTrue g r.variables r.clauses

-- ---- what is told by them

-- where it is told, the clauses of the state can't be true
abbrev pub TellsNever : {E : Type 0} → Setting → State → Result Bool E → Type 0
TellsNever setting state result =
    let g = signature_of setting in let s = state_view state in
    IfOk result (λ b. HasSortedClauses g s → IsTrue b → ¬ CanBeTrue g s.variables s.clauses)

-- whether the part has an instance, where this is left open of it
abbrev pub TellsOfUndecided : {E : Type 0} → Setting → State → UndecidedClauses → Result PartAnswer E → Type 0
TellsOfUndecided setting part told result =
    let g = signature_of setting in let p = state_view part in
    IfOk result (λ a. (s : SymbolicState) → HasSortedClauses g p → ShowsOf g s p told → IsRightAnswerOf g s p a)
