-- What is known of a run that is answered.
-- Source: this project.
use Rattle.std.specs.Prelude.{◌≡◌, List}
use Rattle.kp_kore.specs.Syntax.{Text, KorePattern}
use Rattle.kp_kore.specs.Parts.{variable_names}
use Rattle.kp_kore.specs.Replies.{IsComputed}
use Rattle.kp_kore.specs.Theory.{Theory}
use Rattle.kp_kore.specs.Executions.{Options}
use Rattle.kp_symbolic.specs.States.{SymbolicState}
use Rattle.kp_symbolic.specs.View.{state_view}
use Rattle.kp_case_laws.specs.NextStates.{HaveOwnIds}
use Rattle.kp_results.specs.Results.{StateParts, ExecutedParts}
use Rattle.kp_unify.specs.Views.{signature_of, IsSetting}
use Rattle.kp_unify.specs.declared.part.Setting.{Setting}
use Rattle.kp_rule_sets.specs.RuleSets.{RunsAs}
use Rattle.kp_rule_sets.specs.declared.rule_set.RuleSet.{RuleSet}
use Rattle.kp_step.specs.declared.outcome.StepOutcome.{StepOutcome}
use Rattle.kp_execute.specs.Endings.{IsRightRun}
use Rattle.kp_execute.specs.Order.{IsEndInTurn}
use Rattle.kp_execute.specs.Told.{IsReadRight, IsRequestOf, IsToldEnd}
use Rattle.kp_execute.specs.Written.{IsRunWritten, IsStateWritten, pattern_of}
use Rattle.kp_execute.specs.declared.ending.Ending.TheVariants.{Aborted}
use Rattle.kp_execute.specs.declared.ending.Run.{Run}

-- the rule set is the theory; the names that were met are the request's, which is read as the state
pub record Begins (t : Theory) (request : KorePattern) (s : SymbolicState) (k : Setting) (rules : RuleSet) : Type 0 where
  pub runs : RunsAs t rules
  pub signature : signature_of k ≡ t.signature
  pub setting : IsSetting (variable_names request) k
  pub read : IsReadRight t.signature request s

-- the run is a right one from the request's state, and no two rules have one id
pub record IsRunOf (t : Theory) (o : Options) (request : KorePattern) (r : Run) : Type 0 where
  pub used : List Text
  pub first : SymbolicState
  pub own_ids : HaveOwnIds t.rules
  pub request_of : IsRequestOf t.signature used request first
  pub run : IsRightRun t o used first r

-- a run ends with a result, which is written so; what was added is written right, and the next states stand in their rules' turns
pub record EndsWith (t : Theory) (o : Options) (request : KorePattern) (x : ExecutedParts) : Type 0 where
  pub whole : Run
  pub run : IsRunOf t o request whole
  pub told : IsToldEnd t whole.ending
  pub order : IsEndInTurn t whole.ending
  pub written : IsRunWritten t whole x

-- it ends with what a step tells of its last state; that is written so, and no open call stands in it
pub record EndsUndecided (t : Theory) (o : Options) (request : KorePattern) (r : Run) (x : StateParts) (why : StepOutcome) : Type 0 where
  pub run : IsRunOf t o request r
  pub is : r.ending ≡ Aborted why
  pub written : IsStateWritten t.signature (state_view r.state) x
  pub computed : IsComputed t.signature (pattern_of (state_view r.state).sort x)
