-- Results as parts: what a reply spells of them, and which result of the theory the parts mean.
-- Source: the K Haskell backend's JSON-RPC documentation (execute: reason, state, next-states, rule).
use Rattle.std.specs.Prelude.{◌≡◌, ℕ, List, [], ◌∷◌, Option, Some, None}
use Rattle.std.specs.List.{AllZip}
use Rattle.kp_kore.specs.Syntax.{Text, KoreSort, KorePattern, conjunction, no_patterns, next_pattern}
use Rattle.kp_kore.specs.Cases.{NextState}
use Rattle.kp_kore.specs.Causes.{Cause}
use Rattle.kp_kore.specs.Executions as theory
use Rattle.kp_kore.specs.Executions.{Executed}

-- ---- parts

-- a state: its term, and its predicate where there is one
pub record StateParts : Type 0 where
  pub term : KorePattern
  pub predicate : Option KorePattern

-- a next state: its rule's id (none where no rule fires), when it is this case, and the state
pub record NextParts : Type 0 where
  pub rule : Option Text
  pub predicate : KorePattern
  pub state : StateParts

-- why a run ended, without its next states
pub data Ending : Type 0 where
  vacuous depth_bound stuck branching : Ending
  cut_point terminal : Text → Ending
  aborted : Cause → Ending

-- the result of execute
pub record ExecutedParts : Type 0 where
  pub depth : ℕ
  pub ending : Ending
  pub state : StateParts
  pub nexts : List NextParts

-- ---- what the parts mean

-- the pattern of a state: its term, or the conjunction of term and predicate
abbrev pub IsPatternOf : StateParts → KorePattern → Type 0
IsPatternOf s p = of_predicate s.predicate
  where
    of_predicate : Option KorePattern → Type 0
    of_predicate None = p ≡ s.term
    of_predicate (Some q) = (sort : KoreSort) × (p ≡ conjunction sort (next_pattern s.term (next_pattern q no_patterns)))

-- the same rule, the same predicate, and a pattern of the state
pub record IsNextOf (n : NextParts) (m : NextState) : Type 0 where
  pub rule : m.rule ≡ n.rule
  pub predicate : m.predicate ≡ n.predicate
  pub state : IsPatternOf n.state m.state

-- the next states stand with branching and, one alone, with a cut point
abbrev pub IsReasonOf : Ending → List NextParts → theory.Reason → Type 0
IsReasonOf vacuous ns r = (ns ≡ []) × (r ≡ theory.vacuous)
IsReasonOf depth_bound ns r = (ns ≡ []) × (r ≡ theory.depth_bound)
IsReasonOf stuck ns r = (ns ≡ []) × (r ≡ theory.stuck)
IsReasonOf branching ns r = (ms : List NextState) × AllZip IsNextOf ns ms × (r ≡ theory.branching ms)
IsReasonOf (cut_point id) ns r = (m : NextState) × AllZip IsNextOf ns (m ∷ []) × (r ≡ theory.cut_point id m)
IsReasonOf (terminal id) ns r = (ns ≡ []) × (r ≡ theory.terminal id)
IsReasonOf (aborted cause) ns r = (ns ≡ []) × (r ≡ theory.aborted cause)

-- the parts mean this result of the theory
pub record IsResultOf (x : ExecutedParts) (e : Executed) : Type 0 where
  pub depth : e.depth ≡ x.depth
  pub reason : IsReasonOf x.ending x.nexts e.reason
  pub state : IsPatternOf x.state e.state

-- ---- what isn't decided

-- the bits of the largest constant, the literals, the choices of one literal in each clause, the levels of a term
pub data Weight : Type 0 where
  bits literals product depth : Weight

-- a weight and the number that it reached; an interpreted symbol whose value leaves signed 128 bits, with its operands
pub data Limit : Type 0 where
  weighed : Weight → ℕ → Limit
  wide_call : Text → Text → Text → Limit

-- a predicate, with a limit where its weight passes one; a limit alone
pub data Undecided : Type 0 where
  predicate : KorePattern → Option Limit → Undecided
  limit : Limit → Undecided
