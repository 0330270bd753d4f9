-- When the answer of implies is right: a result, or what isn't decided and shown.
-- Source: the K Haskell backend's JSON-RPC documentation (implies); the causes are this project's.
use Rattle.std.specs.Prelude.{◌≡◌, ℕ, min, List, ◌++◌, Some, None}
use Rattle.std.specs.List.{flat_map}
use Rattle.kp_kore.specs.Syntax.{KorePattern}
use Rattle.kp_kore.specs.Signature.{KoreSignature}
use Rattle.kp_kore.specs.Implied.{Implied, IsRightImplied}
use Rattle.kp_symbolic.specs.States.{Literal, SymbolicState}
use Rattle.kp_symbolic.specs.Solving.{IsReadAs}
use Rattle.kp_symbolic.specs.Verdicts.{Weighed}
use Rattle.kp_symbolic.specs.Shown.{Undecided, unknown_clauses, weight_passed, wide_number, deep, most_told}
use Rattle.kp_symbolic.specs.Endings.{Result, IsRightOr, IsPredicateOf}
use Rattle.kp_case_laws.specs.Parts.{StatePart, whole}
use Rattle.kp_unify.specs.Comes.{IsNarrowedFrom}
use Rattle.kp_limits.specs.Wide.{WideCall, first_wide}
use Rattle.kp_simplify.specs.Answers.{atom_sides, first_deep}
use Rattle.kp_goals.specs.Consequents.{Consequent, IsConsequent, left_of, MeetsConsequent, beside}
use Rattle.kp_goals.specs.Goals.{IsAskedIn}
use Rattle.kp_implies.specs.Open.{IsLeftOpen}
use Rattle.kp_implies.specs.Printed.{told_of, equalities_of}

-- the consequent's term, and the goals of a part
abbrev pub goal_state : Consequent → StatePart → List (List Literal) → SymbolicState
goal_state k p goals = record { term = k.term; sort = p.state.sort; clauses = goals; variables = p.state.variables ++ k.bound }

-- a number beyond 128 bits in the antecedent, in the consequent's term or in a goal; a side of the substitution that is too deep
pub data PassesLimit (g : KoreSignature) (s : SymbolicState) (k : Consequent) : Undecided → Type 0 where
  in_state : (x : WideCall) → first_wide g s ≡ Some x → PassesLimit g s k (wide_number x.symbol x.first x.second)
  in_goals : (p : StatePart) (goals : List (List Literal)) (x : WideCall) → MeetsConsequent g s k → IsNarrowedFrom g (left_of g k) (whole s) p → IsAskedIn g k (told_of g k s) p goals →
      first_wide g (goal_state k p goals) ≡ Some x → PassesLimit g s k (wide_number x.symbol x.first x.second)
  in_substitution : (n : ℕ) → first_deep g (flat_map atom_sides (equalities_of g k s)) ≡ Some n → PassesLimit g s k (deep n)

-- the predicate of the clauses that are shown, with the weight that is passed
abbrev pub ShowsOpen : KoreSignature → SymbolicState → Consequent → Undecided → Type 0
ShowsOpen g s k (unknown_clauses q) = (cs : List (List Literal)) × IsLeftOpen g s k cs None × IsPredicateOf g s.sort cs q
ShowsOpen g s k (weight_passed q w n) = (cs : List (List Literal)) × (h : Weighed) × IsLeftOpen g s k cs (Some h) × (h.weight ≡ w) × (n ≡ min h.number most_told) × IsPredicateOf g s.sort cs q
ShowsOpen g s k cause = PassesLimit g s k cause

-- what is shown of the antecedent beside the consequent
pub record IsShownOfSides (g : KoreSignature) (a c : KorePattern) (cause : Undecided) : Type 0 where
  pub state : SymbolicState
  pub read : IsReadAs g a state
  pub consequent : Consequent
  pub is_consequent : IsConsequent g c consequent
  pub shown : ShowsOpen g (beside state c) consequent cause

abbrev pub IsRightOfSides : KoreSignature → KorePattern → KorePattern → Result Implied → Type 0
IsRightOfSides g a c = IsRightOr (IsRightImplied g a c) (IsShownOfSides g a c)
