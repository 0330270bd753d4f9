-- Which verdict of kp_symbolic the code's is, and which answers are right.
-- Source: satisfiability of clauses; what is shown and told is this project's.
use Rattle.std.specs.Prelude.{◌≡◌, List, Option, Some, None, ⊤}
use Rattle.kp_kore.specs.Signature.{KoreSignature}
use Rattle.kp_symbolic.specs.States.{Literal, SymbolicState}
use Rattle.kp_symbolic.specs.Verdicts as model
use Rattle.kp_symbolic.specs.View.{clauses_view}
use Rattle.kp_limits.specs.Told.{weight_view, told}
use Rattle.kp_limits.specs.declared.weight.Weighed.{Weighed}
use Rattle.kp_satisfiability.specs.declared.verdict.Verdict.{Verdict}
use Rattle.kp_satisfiability.specs.declared.verdict.Verdict.TheVariants.{SomeValuation, NoValuation, Undecided}

-- the weight is told with its number, up to the largest that is told
abbrev pub IsWeighedAs : Option model.Weighed → Option Weighed → Type 0
IsWeighedAs None None = ⊤
IsWeighedAs (Some h) (Some w) = (h.weight ≡ weight_view w.weight) × (w.number ≡ told h.number)
IsWeighedAs h w = ⊥

-- the answer says this verdict
abbrev pub IsToldAs : model.Verdict → Verdict → Type 0
IsToldAs model.some_valuation SomeValuation = ⊤
IsToldAs model.no_valuation NoValuation = ⊤
IsToldAs (model.undecided shown h) (Undecided cs w) = (shown ≡ clauses_view cs.items) × IsWeighedAs h w
IsToldAs d a = ⊥

-- these clauses are shown, and this weight
abbrev pub ShowsOver : List (List Literal) → Weighed → Verdict → Type 0
ShowsOver shown w a = (m : model.Weighed) → IsWeighedAs (Some m) (Some w) → IsToldAs (model.undecided shown (Some m)) a

-- the answer is a right verdict
pub record IsRightAnswer (g : KoreSignature) (s : SymbolicState) (a : Verdict) : Type 0 where
  pub verdict : model.Verdict
  pub right : model.IsRightVerdict g s verdict
  pub is_told : IsToldAs verdict a

-- nothing is left open
abbrev pub IsDecided : Verdict → Type 0
IsDecided (Undecided cs w) = ⊥
IsDecided a = ⊤
