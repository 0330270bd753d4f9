-- Which limits a step may pass: numbers beyond 128 bits, and deep terms.
-- Source: this project.
use Rattle.std.specs.Prelude.{◌≡◌, ◌⊎◌, ℕ, List, [], ◌∷◌, ◌++◌, Some, None, MatchOption}
use Rattle.std.specs.List.{AllByRecursion, Contains}
use Rattle.kp_kore.specs.Syntax.{Text}
use Rattle.kp_kore.specs.Signature.{KoreSignature}
use Rattle.kp_kore.specs.Rules.{Rewrite, RuleBody, rewrite, RewriteRule}
use Rattle.kp_kore.specs.Theory.{Theory}
use Rattle.kp_symbolic.specs.States.{Literal, SymbolicState}
use Rattle.kp_symbolic.specs.Verdicts.{Verdict, no_valuation, IsRightVerdict}
use Rattle.kp_limits.specs.Wide.{WideCall, first_wide}
use Rattle.kp_simplify.specs.Answers.{first_deep, state_sides}
use Rattle.kp_case_laws.specs.Parts.{StatePart, whole, with_clauses}
use Rattle.kp_case_laws.specs.Firing.{FiringPart, AreFiringCases, HasNoInstance}
use Rattle.kp_case_laws.specs.NextStates.{StepCase, AreStepCases}
use Rattle.kp_step.specs.Comes.{ComesFrom}
use Rattle.kp_step.specs.Meets.{MeetsRule}
use Rattle.kp_step.specs.Remainders.{IsOfTheory}
use Rattle.kp_step.specs.Follows.{IsMovedBy}

-- the first call of two numbers in the state whose number leaves 128 bits; else the levels of its first term that has too many
pub data TermLimit : Type 0 where
  number : WideCall → TermLimit
  depth : ℕ → TermLimit

abbrev pub Passes : KoreSignature → SymbolicState → TermLimit → Type 0
Passes g s (number c) = first_wide g s ≡ Some c
Passes g s (depth n) = (first_wide g s ≡ None) × (first_deep g (state_sides s) ≡ Some n)

abbrev pub PassesNone : KoreSignature → SymbolicState → Type 0
PassesNone g s = (first_wide g s ≡ None) × (first_deep g (state_sides s) ≡ None)

-- of these states the first that passes a limit passes this one
abbrev pub IsFirstPassed : KoreSignature → List SymbolicState → TermLimit → Type 0
IsFirstPassed g [] l = ⊥
IsFirstPassed g (s ∷ ss) l = Passes g s l ⊎ (PassesNone g s × IsFirstPassed g ss l)

-- the part that a rule's left side meets, with the clauses under which it fires there: it comes of the state and of the rule; the rule
-- meets the state, and it isn't known that its left side meets no instance
pub record IsConditionOf (t : Theory) (s x : SymbolicState) : Type 0 where
  pub rule : RewriteRule
  pub of_theory : Contains t.rules rule
  pub firing : FiringPart
  pub apart : List StatePart
  pub cases : AreFiringCases t.signature rule.body (whole s) (Some firing) apart
  pub comes : ComesFrom t.signature (λ b. b ≡ rule.body) (whole s) (with_clauses firing.part firing.clauses)
  pub meets : MeetsRule t.signature s rule.body
  pub equations : List (List Literal)
  pub condition : List (List Literal)
  pub are : firing.clauses ≡ equations ++ condition
  pub answer : Verdict
  pub right : IsRightVerdict t.signature (with_clauses firing.part equations).state answer
  pub can_meet : ¬ (answer ≡ no_valuation)
  pub is : x ≡ (with_clauses firing.part firing.clauses).state

abbrev pub with_more : SymbolicState → List (List Literal) → SymbolicState
with_more s clauses = record { term = s.term; sort = s.sort; clauses = s.clauses ++ clauses; variables = s.variables }

-- where the rule fires, no number of its condition leaves 128 bits; or it is known that its left side stands for no instance
pub record HasNoWideCondition (t : Theory) (s : SymbolicState) (rule : RewriteRule) : Type 0 where
  pub firing : FiringPart
  pub apart : List StatePart
  pub cases : AreFiringCases t.signature rule.body (whole s) (Some firing) apart
  pub comes : ComesFrom t.signature (λ b. b ≡ rule.body) (whole s) (with_clauses firing.part firing.clauses)
  pub equations : List (List Literal)
  pub condition : List (List Literal)
  pub are : firing.clauses ≡ equations ++ condition
  pub none : (first_wide t.signature (with_clauses firing.part firing.clauses).state ≡ None) ⊎ HasNoInstance t.signature (with_clauses firing.part equations)

-- what is written for a case: its next state, and the predicate's clauses
abbrev pub told_state : StepCase → SymbolicState
told_state k = with_more k.next k.part.added

-- a rule of the theory that meets the state
abbrev pub IsRuleMet : Theory → SymbolicState → RuleBody → Type 0
IsRuleMet t s b = IsOfTheory t b × MeetsRule t.signature s b

-- by form, the case's part comes of the state and of rules that meet it, and its next state of the rule's right side; where no rule fires,
-- it is the part's own
pub record IsCaseMade (t : Theory) (s : SymbolicState) (k : StepCase) : Type 0 where
  pub comes : ComesFrom t.signature (IsRuleMet t s) (whole s) k.part
  pub used : List Text
  pub next : MatchOption k.rule (k.next ≡ k.part.state) (λ r. IsRuleMet t s r.body × ((m : Rewrite) → r.body ≡ rewrite m → IsMovedBy t.signature used m k.part k.next))

-- what is written for a case of the step: next states by turn, then what remains; for those before it no limit is passed
pub record IsWrittenOf (t : Theory) (s x : SymbolicState) : Type 0 where
  pub cases : List StepCase
  pub are : AreStepCases t s cases
  pub one : StepCase
  pub among : Contains cases one
  pub before : List StepCase
  pub behind : List StepCase
  pub order : cases ≡ before ++ one ∷ behind
  pub none_before : AllByRecursion (λ k. PassesNone t.signature (told_state k)) before
  pub made : IsCaseMade t s one
  pub is : x ≡ told_state one

-- a limit is passed by the state; or else by a rule's condition, or by what is written for a case of the step
pub record IsPassed (t : Theory) (s : SymbolicState) (l : TermLimit) : Type 0 where
  pub state : SymbolicState
  pub which : (state ≡ s) ⊎ (IsConditionOf t s state ⊎ IsWrittenOf t s state)
  pub own_first : (state ≡ s) ⊎ PassesNone t.signature s
  pub passes : Passes t.signature state l
