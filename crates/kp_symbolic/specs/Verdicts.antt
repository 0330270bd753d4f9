-- What may be answered to the question whether a state's clauses can be true.
-- Source: satisfiability of clauses; which clauses are left undecided is this project's choice.
use Rattle.std.specs.Prelude.{◌≡◌, ◌⊎◌, ℕ, List, map, Option, Some, None}
use Rattle.std.specs.List.{filter}
use Rattle.kp_kore.specs.Signature.{KoreSignature}
use Rattle.kp_symbolic.specs.States.{Literal, SymbolicState, CanBeTrue}
use Rattle.kp_symbolic.specs.Plain.{read_clauses, is_plain_clause, plain_part, plain_clauses, rough_clauses}
use Rattle.kp_symbolic.specs.Weights.{Weight, IsOver}

-- a weight with its number
pub record Weighed : Type 0 where
  pub weight : Weight
  pub number : ℕ

pub data Verdict : Type 0 where
  some_valuation no_valuation : Verdict
  -- the clauses that are shown, with the weight that is passed, if one is
  undecided : List (List Literal) → Option Weighed → Verdict

-- The plain clauses can be true, but no valuation makes each clause true by a plain literal; the others are shown.
pub record IsStateUndecided (g : KoreSignature) (s : SymbolicState) (shown : List (List Literal)) : Type 0 where
  pub plain : CanBeTrue g s.variables (plain_clauses g s)
  pub none_by_plain : ¬ CanBeTrue g s.variables (map plain_part (read_clauses g s))
  pub shown_are : shown ≡ rough_clauses g s

-- The clauses weigh more than is decided; all are shown. Those that are plain do so too, or can be true: they are asked first.
pub record IsTooHeavy (g : KoreSignature) (s : SymbolicState) (shown : List (List Literal)) (h : Weighed) : Type 0 where
  pub over : IsOver h.weight (read_clauses g s) h.number
  pub shown_are : shown ≡ s.clauses
  pub plain_first : ((n : ℕ) × IsOver h.weight (filter is_plain_clause (read_clauses g s)) n) ⊎ CanBeTrue g s.variables (plain_clauses g s)

abbrev pub IsRightVerdict : KoreSignature → SymbolicState → Verdict → Type 0
IsRightVerdict g s some_valuation = CanBeTrue g s.variables s.clauses
IsRightVerdict g s no_valuation = ¬ CanBeTrue g s.variables s.clauses
IsRightVerdict g s (undecided shown None) = IsStateUndecided g s shown
IsRightVerdict g s (undecided shown (Some h)) = IsTooHeavy g s shown h

pub data IsDecision : Verdict → Type 0 where
  by_some : IsDecision some_valuation
  by_none : IsDecision no_valuation
