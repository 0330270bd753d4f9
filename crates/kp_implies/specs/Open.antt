-- What is shown of an implication that isn't decided.
-- Source: the K Haskell backend's JSON-RPC documentation (implies); the causes are this project's.
use Rattle.std.specs.Prelude.{◌≡◌, ◌⊎◌, ◌≤◌, List, [], ◌∷◌, Option, Some, None, true}
use Rattle.std.specs.List.{AllByRecursion, Contains}
use Rattle.kp_kore.specs.Signature.{KoreSignature}
use Rattle.kp_kore.specs.Instance.{Valuation, GivesSorts}
use Rattle.kp_symbolic.specs.States.{Literal, IsClauseTrue, AreTrue, SymbolicState, CanBeTrue}
use Rattle.kp_symbolic.specs.Plain.{IsPlainState, plain_clauses, rough_clauses}
use Rattle.kp_symbolic.specs.Verdicts.{Weighed, undecided, IsRightVerdict, IsStateUndecided, IsTooHeavy}
use Rattle.kp_case_laws.specs.Parts.{StatePart, whole}
use Rattle.kp_unify.specs.Comes.{IsNarrowedFrom}
use Rattle.kp_limits.specs.Compared.{compared_count}
use Rattle.kp_step.specs.Counted.{most_for}
use Rattle.kp_goals.specs.Consequents.{Consequent, form_of_term, left_of, MeetsConsequent}
use Rattle.kp_goals.specs.Goals.{IsAskedIn, IsAskedAs, is_unbound}
use Rattle.kp_implies.specs.Printed.{told_of}

-- the goal isn't decided: a bound variable that nothing gives stands in it, or it isn't whether the part has an instance without it
abbrev pub IsGoalOpen : KoreSignature → Consequent → StatePart → List Literal → Type 0
IsGoalOpen g k p c = (is_unbound k.bound c ≡ true) ⊎ ((s : SymbolicState) × (shown : List (List Literal)) × (h : Option Weighed) × IsAskedAs g p c s × IsRightVerdict g s (undecided shown h))

-- Some instance of the part, at which each goal is true that isn't open.
pub record IsMetAt (g : KoreSignature) (k : Consequent) (p : StatePart) (goals : List (List Literal)) : Type 0 where
  pub valuation : Valuation
  pub sorts : GivesSorts g valuation p.state.variables
  pub clauses : AreTrue g valuation p.state.clauses
  pub others : AllByRecursion (λ c. IsGoalOpen g k p c ⊎ IsClauseTrue g valuation c) goals

-- the clauses that are shown of a goal: that a bound variable stands in it, as it stands; or what its opposite leaves undecided
pub data ShowsGoal (g : KoreSignature) (k : Consequent) (p : StatePart) (c : List Literal) : List (List Literal) → Type 0 where
  not_given : is_unbound k.bound c ≡ true → ShowsGoal g k p c (c ∷ [])
  not_plain : (s : SymbolicState) (shown : List (List Literal)) → IsAskedAs g p c s → IsStateUndecided g s shown → ShowsGoal g k p c shown

-- no more whole-number variables are compared than stand in the antecedent and in the consequent's term
abbrev pub ComparesWithin : KoreSignature → SymbolicState → Consequent → SymbolicState → Type 0
ComparesWithin g s k p = compared_count g p ≤ most_for g s (form_of_term g k ∷ [])

-- Why an implication of the state s is left undecided, with the clauses that are shown and the weight that is passed, if one is.
pub data IsLeftOpen (g : KoreSignature) (s : SymbolicState) (k : Consequent) : List (List Literal) → Option Weighed → Type 0 where
  -- the antecedent's own clauses aren't plain; those that are can be true
  own_clauses : CanBeTrue g s.variables (plain_clauses g s) → ¬ (rough_clauses g s ≡ []) → IsLeftOpen g s k (rough_clauses g s) None
  -- they are too heavy
  own_weight : (h : Weighed) → IsTooHeavy g s s.clauses h → IsLeftOpen g s k s.clauses (Some h)
  -- The antecedent is plain, and can be true. A goal of the part that the consequent's term meets isn't decided; some instance of the
  -- part makes those true that are.
  goal : (p : StatePart) (goals : List (List Literal)) (c : List Literal) (shown : List (List Literal)) → IsPlainState g s → CanBeTrue g s.variables s.clauses → MeetsConsequent g s k →
      IsNarrowedFrom g (left_of g k) (whole s) p → IsAskedIn g k (told_of g k s) p goals → Contains goals c → IsMetAt g k p goals → ShowsGoal g k p c shown → IsLeftOpen g s k shown None
  -- the clauses of a part are too heavy, by themselves or with a goal's opposite
  part_weight : (p : StatePart) (h : Weighed) (shown : List (List Literal)) → IsPlainState g s → CanBeTrue g s.variables s.clauses → MeetsConsequent g s k →
      IsNarrowedFrom g (left_of g k) (whole s) p → IsTooHeavy g p.state shown h → ComparesWithin g s k p.state → IsLeftOpen g s k shown (Some h)
  goal_weight : (p : StatePart) (goals : List (List Literal)) (c : List Literal) (q : SymbolicState) (h : Weighed) (shown : List (List Literal)) → IsPlainState g s → CanBeTrue g s.variables s.clauses →
      MeetsConsequent g s k → IsNarrowedFrom g (left_of g k) (whole s) p → IsAskedIn g k (told_of g k s) p goals → Contains goals c → IsAskedAs g p c q → IsTooHeavy g q shown h → ComparesWithin g s k q → IsLeftOpen g s k shown (Some h)
