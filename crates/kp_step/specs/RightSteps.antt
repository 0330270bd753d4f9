-- When what a step finds is right.
-- Source: the K Haskell backend's JSON-RPC documentation (execute: next-states, and the reasons aborted and stuck).
use Rattle.std.specs.Prelude.{◌≡◌, ◌⊎◌, ℕ, List, [], ◌∷◌, ◌++◌, Option, Some, None, ⊤}
use Rattle.std.specs.List.{AllByRecursion, AllZip}
use Rattle.kp_kore.specs.Syntax.{Text}
use Rattle.kp_kore.specs.Rules.{RuleBody, Rewrite, rewrite, foreign_rule, RewriteRule}
use Rattle.kp_kore.specs.Theory.{Theory}
use Rattle.kp_kore.specs.Steps.{Fires, IsUnknown}
use Rattle.kp_symbolic.specs.States.{Literal, SymbolicState}
use Rattle.kp_symbolic.specs.Solving.{Solving}
use Rattle.kp_symbolic.specs.Verdicts.{Weighed, undecided, IsRightVerdict}
use Rattle.kp_limits.specs.Wide.{first_wide}
use Rattle.kp_limits.specs.declared.weight.Weighed as code
use Rattle.kp_satisfiability.specs.Answers.{IsWeighedAs}
use Rattle.kp_symbolic.specs.View.{clauses_view, state_view}
use Rattle.kp_case_laws.specs.Parts.{StatePart, whole, OfEachInstance, IsSortedPart, IsGrown}
use Rattle.kp_case_laws.specs.Firing.{HasNoInstance}
use Rattle.kp_case_laws.specs.NextStates.{StepCase, AreStepCases, IsWithinHand}
use Rattle.kp_unify.specs.Views.{part_view, numbered_view}
use Rattle.kp_unify.specs.declared.part.Part.{Part}
use Rattle.kp_step.specs.Comes.{ComesFrom}
use Rattle.kp_step.specs.ReadyParts.{IsReadyPart, HasInstance}
use Rattle.kp_step.specs.Remainders.{IsOfTheory}
use Rattle.kp_step.specs.Places.{IsAt}
use Rattle.kp_step.specs.Ready.{IsReadyState}
use Rattle.kp_step.specs.Causes.{IsUndecidedStep, IsFirstMet, IsFirstOpen}
use Rattle.kp_step.specs.Limits.{PassesNone, HasNoWideCondition, with_more, IsPassed}
use Rattle.kp_step.specs.Views.{limit_view, part_told}
use Rattle.kp_step.specs.declared.outcome.Next.{Next}
use Rattle.kp_step.specs.declared.outcome.StepOutcome.{StepOutcome}
use Rattle.kp_step.specs.declared.outcome.StepOutcome.TheVariants.{Empty, Cases, Undecided, Foreign, Limited}

-- ---- cases

-- the case of a next state: the rule of its place, its part, and what follows
pub record IsCaseOf (t : Theory) (n : Next) (k : StepCase) : Type 0 where
  pub rule : RewriteRule
  pub at : IsAt t n.rule rule
  pub is : k ≡ record { rule = Some rule; part = part_view n.part; next = state_view n.state }

-- the case of a part that remains
abbrev pub IsRemainderOf : Part → StepCase → Type 0
IsRemainderOf p k = k ≡ record { rule = None; part = part_view p; next = state_view p.state }

-- its part comes of the state and of rules of the theory by form, and has the sorts of its places; new variables have new names, a
-- step may go on from the state, and no limit is passed by what is written
pub record GoesOnFrom (t : Theory) (used : List Text) (s : SymbolicState) (n : Next) : Type 0 where
  pub comes : ComesFrom t.signature (IsOfTheory t) (whole s) (part_view n.part)
  pub sorted : IsSortedPart t.signature (part_view n.part)
  pub grown : IsGrown t.signature used (whole s) (whole (state_view n.state))
  pub ready : IsReadyState t.signature used (state_view n.state) n.next
  pub limits : PassesNone t.signature (with_more (state_view n.state) (clauses_view n.part.added.items))

-- a part that remains comes of the state and of rules of the theory by form, and has new variables with new names; a step may go on
-- from it, its equations are solved, and no limit is passed by what is written
pub record RemainsOf (t : Theory) (used : List Text) (s : SymbolicState) (p : Part) : Type 0 where
  pub comes : ComesFrom t.signature (IsOfTheory t) (whole s) (part_view p)
  pub grown : IsGrown t.signature used (whole s) (part_view p)
  pub ready : IsReadyPart t.signature used (numbered_view p)
  pub solved : (q : StatePart) × Solving t.signature q.state (part_view p).state
  pub limits : PassesNone t.signature (part_told p)

-- where one next state is all, its rule fires on each instance
abbrev pub FiresAlone : Theory → SymbolicState → List Next → List Part → Type 0
FiresAlone t s (n ∷ []) [] = (r : RewriteRule) → IsAt t n.rule r → OfEachInstance t.signature (whole s) (λ w c. Fires t.signature r.body c)
FiresAlone t s nexts remainder = ⊤

-- the next states and the remainder are the cases of a step from a state with an instance
pub record AreCasesOf (t : Theory) (used : List Text) (s : SymbolicState) (nexts : List Next) (remainder : List Part) : Type 0 where
  pub instance : HasInstance t.signature (whole s)
  pub own_limits : PassesNone t.signature s
  pub by_rules : List StepCase
  pub others : List StepCase
  pub each_next : AllZip (IsCaseOf t) nexts by_rules
  pub each_part : AllZip IsRemainderOf remainder others
  pub are : AreStepCases t s (by_rules ++ others)
  pub hand : AllByRecursion (IsWithinHand t.signature s) (by_rules ++ others)
  pub each : AllByRecursion (GoesOnFrom t used s) nexts
  pub remains : AllByRecursion (RemainsOf t used s) remainder
  pub alone : FiresAlone t s nexts remainder

-- ---- causes

-- the rule of the place that is told, or none
abbrev pub IsToldRule : Theory → Option ℕ → Option RewriteRule → Type 0
IsToldRule t (Some place) (Some r) = IsAt t place r
IsToldRule t None None = ⊤
IsToldRule t place rule = ⊥

-- what is known before it is asked whether this rule might rewrite an instance: for a foreign one, of those that go before it and of all;
-- for one that is read, that no foreign one does, and no number leaves 128 bits where it fires
abbrev pub IsBehindRule : Theory → SymbolicState → Option ℕ → RewriteRule → RuleBody → Type 0
IsBehindRule t s place r (rewrite m) = OfEachInstance t.signature (whole s) (λ w c. ¬ IsUnknown t c) × HasNoWideCondition t s r
IsBehindRule t s (Some place) r (foreign_rule l) = IsFirstOpen t s place r
IsBehindRule t s None r (foreign_rule l) = ⊥

-- the same where no rule is told: nothing, where the state's own clauses aren't decided
abbrev pub IsBehind : Theory → SymbolicState → List (List Literal) → Option Weighed → Option ℕ → Option RewriteRule → Type 0
IsBehind t s shown over place (Some r) = IsBehindRule t s place r r.body
IsBehind t s shown over place None = IsRightVerdict t.signature s (undecided shown over) ⊎ OfEachInstance t.signature (whole s) (λ w c. ¬ IsUnknown t c)

-- no number of the state leaves 128 bits, and what goes before is known
pub record IsToldUndecided (t : Theory) (s : SymbolicState) (shown : List (List Literal)) (over : Option code.Weighed) (place : Option ℕ) : Type 0 where
  pub rule : Option RewriteRule
  pub is_rule : IsToldRule t place rule
  pub weight : Option Weighed
  pub weighed : IsWeighedAs weight over
  pub what_is_undecided : IsUndecidedStep t s rule shown weight
  pub no_number : first_wide t.signature s ≡ None
  pub behind : IsBehind t s shown weight place rule

-- ---- the outcome

-- In the order of the causes: no instance; a limit that the state passes, or clauses of its own that aren't decided, a number before
-- them; a foreign rule that meets, then one that isn't decided; rules by turn, a number of the condition before what isn't decided; what
-- isn't decided of the remainder; limits of what is written; the cases. Each is told only where none before it is.

abbrev pub IsRightStep : Theory → List Text → SymbolicState → StepOutcome → Type 0
IsRightStep t used s Empty = HasNoInstance t.signature (whole s)
IsRightStep t used s (Cases nexts remainder) = AreCasesOf t used s nexts.items remainder.items
IsRightStep t used s (Undecided told place) = IsToldUndecided t s (clauses_view told.shown.items) told.over place
IsRightStep t used s (Foreign place) = IsFirstMet t s place
IsRightStep t used s (Limited l) = IsPassed t s (limit_view l)
