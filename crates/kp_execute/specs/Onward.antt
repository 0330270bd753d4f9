-- What a run does behind a step.
-- Source: the K Haskell backend's JSON-RPC documentation (execute: cut-point-rules, terminal-rules).
use Rattle.std.specs.Prelude.{◌≡◌, ℕ, true, false, List}
use Rattle.kp_kore.specs.Syntax.{Text}
use Rattle.kp_kore.specs.Rules.{RewriteRule}
use Rattle.kp_kore.specs.Theory.{Theory}
use Rattle.kp_kore.specs.Executions.{Options, is_among}
use Rattle.kp_symbolic.specs.States.{SymbolicState}
use Rattle.kp_symbolic.specs.View.{state_view}
use Rattle.kp_case_laws.specs.NextStates.{StepCase}
use Rattle.kp_case_laws.specs.RunLaws.{IsAloneBy}
use Rattle.kp_step.specs.Places.{IsAt}
use Rattle.kp_step.specs.Ready.{IsReadyState}
use Rattle.kp_execute.specs.Endings.{IsEndOfStep}
use Rattle.kp_execute.specs.declared.onward.Onward.{Onward}
use Rattle.kp_execute.specs.declared.onward.Onward.TheVariants.{Ends, Stops, Steps}

-- the rule alone takes the state to a later one, from which a step may go on; it is none to stop before
pub record IsTakenBy (t : Theory) (o : Options) (used : List Text) (now : SymbolicState) (r : RewriteRule) (later : SymbolicState) (next : ℕ) : Type 0 where
  pub case : StepCase
  pub is : case.next ≡ later
  pub alone : IsAloneBy t used now r case
  pub ready : IsReadyState t.signature used later next
  pub no_cut_point : is_among o.cut_points r.id ≡ false

-- and is one to stop behind
pub record StopsBehind (t : Theory) (o : Options) (used : List Text) (now : SymbolicState) (place : ℕ) (later : SymbolicState) (next : ℕ) : Type 0 where
  pub rule : RewriteRule
  pub at : IsAt t place rule
  pub taken : IsTakenBy t o used now rule later next
  pub is_terminal : is_among o.terminals rule.id ≡ true

-- or is none
pub record GoesOn (t : Theory) (o : Options) (used : List Text) (now later : SymbolicState) (next : ℕ) : Type 0 where
  pub rule : RewriteRule
  pub taken : IsTakenBy t o used now rule later next
  pub no_terminal : is_among o.terminals rule.id ≡ false

-- what the step from this state means
abbrev pub IsRightOnward : Theory → Options → List Text → SymbolicState → Onward → Type 0
IsRightOnward t o used now (Ends ending) = IsEndOfStep t o used now ending
IsRightOnward t o used now (Stops place later next) = StopsBehind t o used now place (state_view later) next
IsRightOnward t o used now (Steps later next) = GoesOn t o used now (state_view later) next
