-- How a run of a rule set from a symbolic state ends.
-- Source: the K Haskell backend's JSON-RPC documentation (execute: depth, and the seven reasons).
use Rattle.std.specs.Prelude.{◌≡◌, ◌⊎◌, ◌<◌, ◌≤◌, ℕ, suc, true, false, List, [], ◌∷◌, Option, ⊤}
use Rattle.std.specs.List.{Contains}
use Rattle.kp_kore.specs.Syntax.{Text}
use Rattle.kp_kore.specs.Signature.{KoreSignature}
use Rattle.kp_kore.specs.Rules.{RewriteRule}
use Rattle.kp_kore.specs.Theory.{Theory}
use Rattle.kp_kore.specs.Executions.{Options, listed_in, is_among}
use Rattle.kp_symbolic.specs.States.{Literal, SymbolicState}
use Rattle.kp_symbolic.specs.Verdicts.{Weighed, undecided, IsRightVerdict}
use Rattle.kp_symbolic.specs.View.{state_view}
use Rattle.kp_case_laws.specs.Parts.{whole}
use Rattle.kp_case_laws.specs.Firing.{HasNoInstance}
use Rattle.kp_case_laws.specs.Runs.{StatePasses, HasRunTo, RunEndsBy}
use Rattle.kp_unify.specs.declared.part.Part.{Part}
use Rattle.kp_unify.specs.declared.part.Setting.{Setting}
use Rattle.kp_unify.specs.Views.{IsSetting}
use Rattle.kp_rule_sets.specs.declared.rule_set.RuleSet.{RuleSet}
use Rattle.kp_step.specs.ReadyParts.{HasInstance}
use Rattle.kp_step.specs.Places.{IsAt}
use Rattle.kp_step.specs.Ready.{IsReadyState}
use Rattle.kp_step.specs.Rules.{Steps}
use Rattle.kp_step.specs.RightSteps.{AreCasesOf, IsRightStep}
use Rattle.kp_step.specs.declared.outcome.Next.{Next}
use Rattle.kp_step.specs.declared.outcome.StepOutcome.{StepOutcome}
use Rattle.kp_step.specs.declared.outcome.StepOutcome.TheVariants.{Undecided, Foreign, Limited}
use Rattle.kp_execute.specs.declared.ending.Ending.{Ending}
use Rattle.kp_execute.specs.declared.ending.Ending.TheVariants.{Vacuous, DepthBound, Stuck, Branching, CutPoint, Terminal, Aborted}
use Rattle.kp_execute.specs.declared.ending.Run.{Run}

-- runs of the theory from a state that a step may go on from
pub record IsRunFrom (t : Theory) (used : List Text) (s : SymbolicState) (k : Setting) (rules : RuleSet) (next : ℕ) : Type 0 where
  pub steps : Steps t k rules
  pub setting : IsSetting used k
  pub ready : IsReadyState t.signature used s next

-- ---- at the bound

-- it isn't decided whether the state has an instance
pub record IsUndecided (g : KoreSignature) (s : SymbolicState) : Type 0 where
  pub shown : List (List Literal)
  pub over : Option Weighed
  pub right : IsRightVerdict g s (undecided shown over)

-- a state without instances ends a run at its bound, too; it goes before all else that a step might tell
abbrev pub IsEndAtBound : KoreSignature → SymbolicState → Ending → Type 0
IsEndAtBound g s Vacuous = HasNoInstance g (whole s)
IsEndAtBound g s DepthBound = HasInstance g (whole s) ⊎ IsUndecided g s
IsEndAtBound g s ending = ⊥

-- ---- below the bound

-- the id of the rule of this place is one of these
abbrev pub IsListedAt : Theory → List Text → ℕ → Type 0
IsListedAt t ids place = (r : RewriteRule) → IsAt t place r → is_among ids r.id ≡ true

-- what a step tells in place of cases
abbrev pub IsCause : StepOutcome → Type 0
IsCause (Undecided told rule) = ⊤
IsCause (Foreign rule) = ⊤
IsCause (Limited limit) = ⊤
IsCause outcome = ⊥

-- two of these are of rules of two places
pub record AreOfTwo (nexts : List Next) : Type 0 where
  pub one : Next
  pub other : Next
  pub has_one : Contains nexts one
  pub has_other : Contains nexts other
  pub differ : ¬ (one.rule ≡ other.rule)

-- two cases: of two rules, or of one and of none
abbrev pub AreSeveral : List Next → List Part → Type 0
AreSeveral nexts [] = AreOfTwo nexts
AreSeveral nexts (p ∷ remainder) = ¬ (nexts ≡ [])

-- what the step from this state ends a run with
abbrev pub IsEndOfStep : Theory → Options → List Text → SymbolicState → Ending → Type 0
IsEndOfStep t o used now Vacuous = HasNoInstance t.signature (whole now)
IsEndOfStep t o used now (Stuck remainder) = AreCasesOf t used now [] remainder.items × (¬ (remainder.items ≡ []))
IsEndOfStep t o used now (Branching nexts remainder) = AreCasesOf t used now nexts.items remainder.items × AreSeveral nexts.items remainder.items
IsEndOfStep t o used now (CutPoint next) = AreCasesOf t used now (next ∷ []) [] × IsListedAt t o.cut_points next.rule
IsEndOfStep t o used now (Aborted why) = IsRightStep t used now why × IsCause why
IsEndOfStep t o used now DepthBound = ⊥
IsEndOfStep t o used now (Terminal place) = ⊥

-- ---- the run

-- the step before the last was by the rule of the place, which is one to stop behind and none to stop before
pub record IsTerminal (t : Theory) (o : Options) (s : SymbolicState) (d place : ℕ) : Type 0 where
  pub before : ℕ
  pub one_less : d ≡ suc before
  pub rule : RewriteRule
  pub at : IsAt t place rule
  pub ends : RunEndsBy t (listed_in o) s before rule.id
  pub is_terminal : is_among o.terminals rule.id ≡ true
  pub no_cut_point : is_among o.cut_points rule.id ≡ false

-- how the run of s ends at this state, after d steps; before it nothing that was passed is final or listed
abbrev pub IsRightEnding : Theory → Options → List Text → SymbolicState → ℕ → SymbolicState → Ending → Type 0
IsRightEnding t o used s d now Vacuous = StatePasses t (listed_in o) s d × HasNoInstance t.signature (whole now)
IsRightEnding t o used s d now DepthBound = StatePasses t (listed_in o) s d × (d ≡ o.bound) × IsEndAtBound t.signature now DepthBound
IsRightEnding t o used s d now (Terminal place) = IsTerminal t o s d place
IsRightEnding t o used s d now ending = StatePasses t (listed_in o) s d × (d < o.bound) × IsEndOfStep t o used now ending

-- the run of s stands at this state, and a step may go on from it
pub record IsUnderWay (t : Theory) (o : Options) (used : List Text) (s now : SymbolicState) (next d : ℕ) : Type 0 where
  pub run : HasRunTo t used s now d
  pub passes : StatePasses t (listed_in o) s d
  pub ready : IsReadyState t.signature used now next

-- what the run of s ends with: as far as it went, a state that a step may go on from, and why it ends there
pub record IsRightRun (t : Theory) (o : Options) (used : List Text) (s : SymbolicState) (r : Run) : Type 0 where
  pub within : r.depth ≤ o.bound
  pub run : HasRunTo t used s (state_view r.state) r.depth
  pub ready : IsReadyState t.signature used (state_view r.state) r.next
  pub ending : IsRightEnding t o used s r.depth (state_view r.state) r.ending
