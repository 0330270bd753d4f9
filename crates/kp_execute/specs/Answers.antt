-- What execute answers of a pattern: the result of a run, or what isn't decided of a state of it; and why it refuses one.
-- Source: the K Haskell backend's JSON-RPC documentation (execute: the seven reasons); what is left open is this project's.
use Rattle.std.specs.Prelude.{◌≡◌, ◌≢◌, ◌⊎◌, ◌<◌, ℕ, ℤ, suc, List, [], Option, Some, None, string_bytes, ⊤}
use Rattle.kp_kore.specs.Syntax.{Text, KorePattern}
use Rattle.kp_kore.specs.Signature.{KoreSignature, injection, meaning_of}
use Rattle.kp_kore.specs.Rules.{RewriteRule}
use Rattle.kp_kore.specs.Theory.{Theory}
use Rattle.kp_kore.specs.Steps.{StepsIn}
use Rattle.kp_kore.specs.Replies.{IsComputed}
use Rattle.kp_kore.specs.Value.{Value}
use Rattle.kp_kore.specs.AtHand.{OfEach, OfSome}
use Rattle.kp_kore.specs.Cases.{HasTurnAlone}
use Rattle.kp_kore.specs.Onward.{Leads, Passes}
use Rattle.kp_kore.specs.Causes.{foreign}
use Rattle.kp_kore.specs.Executions.{Options, listed_in}
use Rattle.kp_clauses.specs.Faults.{state_fault, foreign_symbol, other_shape}
use Rattle.kp_compile.specs.Spelled.{injection_name}
use Rattle.kp_symbolic.specs.States.{Literal, SymbolicState}
use Rattle.kp_symbolic.specs.Verdicts.{Weighed}
use Rattle.kp_limits.specs.Wide.{WideCall}
use Rattle.kp_results.specs.Results as parts
use Rattle.kp_results.specs.Results.{StateParts, Ending, depth_bound, aborted, ExecutedParts, Undecided}
use Rattle.kp_results.specs.View as results
use Rattle.kp_simplify.specs.Told.{parts_of_call, parts_of_weight}
use Rattle.kp_case_laws.specs.Parts.{whole}
use Rattle.kp_case_laws.specs.NextStates.{IsPatternOf}
use Rattle.kp_step.specs.ReadyParts.{HasInstance}
use Rattle.kp_step.specs.Places.{IsAt}
use Rattle.kp_step.specs.Causes.{IsUndecidedStep, IsFirstMet}
use Rattle.kp_step.specs.RightSteps.{IsToldRule}
use Rattle.kp_step.specs.Limits as limits
use Rattle.kp_step.specs.Limits.{IsPassed}
use Rattle.kp_symbolic.specs.View.{state_view}
use Rattle.kp_execute.specs.Known.{IsRunOf}
use Rattle.kp_execute.specs.declared.ending.Run.{Run}
use Rattle.kp_execute.specs.Laws.{MeansRight}
use Rattle.kp_execute.specs.Endings.{IsUndecided}
use Rattle.kp_execute.specs.Order.{AreInOrder}
use Rattle.kp_execute.specs.Written.{AreWritten, IsStateWritten, pattern_of}
use Rattle.kp_execute.specs.declared.answer.Answer.{Answer}
use Rattle.kp_execute.specs.declared.answer.Answer.TheVariants as answer
use Rattle.kp_execute.specs.declared.answer.ExecuteError.{ExecuteError}
use Rattle.kp_execute.specs.declared.answer.ExecuteError.TheVariants as error

-- ---- what isn't decided of a state

abbrev pub call_of : Text → ℤ → ℤ → WideCall
call_of f m n = record { symbol = f; first = m; second = n }

-- Clauses of a part of it, where the step asks whether the part has an instance, for a rule of the theory or for none: those that
-- aren't plain, or all with the weight that they pass. Or a call of two numbers beyond 128 bits, or a term with too many levels, in
-- the state, in a rule's condition there, or in what would be written behind it.
pub data IsUndecidedBy (t : Theory) (s : SymbolicState) : Undecided → Type 0 where
  by_clauses : (place : Option ℕ) (rule : Option RewriteRule) (shown : List (List Literal)) (q : KorePattern) → IsToldRule t place rule →
      IsUndecidedStep t s rule shown None → AreWritten t.signature s.sort shown (Some q) → IsUndecidedBy t s (parts.predicate q None)
  by_weight : (place : Option ℕ) (rule : Option RewriteRule) (shown : List (List Literal)) (q : KorePattern) (h : Weighed) → IsToldRule t place rule →
      IsUndecidedStep t s rule shown (Some h) → AreWritten t.signature s.sort shown (Some q) → IsUndecidedBy t s (parts.predicate q (Some (parts_of_weight h)))
  by_number : (c : WideCall) → IsPassed t s (limits.number c) → IsUndecidedBy t s (parts_of_call c)
  by_depth : (n : ℕ) → IsPassed t s (limits.depth n) → IsUndecidedBy t s (parts.limit (parts.weighed parts.depth n))

-- ---- answers

-- the result of a run; or after so many steps, in this state, what isn't decided
pub data RunAnswer : Type 0 where
  executed : ExecutedParts → RunAnswer
  what_is_undecided : ℕ → StateParts → Undecided → RunAnswer

-- the run stopped in this state, since the foreign rule of this id might rewrite an instance
abbrev pub aborted_with : ℕ → StateParts → Text → RunAnswer
aborted_with depth state id = executed (record { depth = depth; ending = aborted (foreign id); state = state; nexts = [] })

abbrev pub answer_view : Answer → RunAnswer
answer_view (answer.Executed e) = executed (results.executed_view e)
answer_view (answer.UndecidedStep depth state u) = what_is_undecided depth (results.state_view state) (results.undecided_view u)

-- a foreign rule that is told is the first, by priority number and then by place, that might rewrite an instance of the state
abbrev pub IsFirstTold : Theory → SymbolicState → Ending → Type 0
IsFirstTold t s (aborted (foreign id)) = (place : ℕ) × (r : RewriteRule) × IsAt t place r × (id ≡ r.id) × IsFirstMet t s place
IsFirstTold t s ending = ⊤

-- the last state of a right run from the state that the request is read as
pub record IsLastOfRun (t : Theory) (o : Options) (request : KorePattern) (state : SymbolicState) : Type 0 where
  pub run : Run
  pub is_run : IsRunOf t o request run
  pub is_last : state ≡ state_view run.state

-- each step that the run passed is by one rule alone: nothing remains, and no other rule has its turn
abbrev pub PassesByOne : Theory → KorePattern → ℕ → Type 0
PassesByOne t request d = (n : ℕ) → n < d → (id : Text) × OfEach t.signature [] request (λ v c. (later : Value) → StepsIn t n c later → HasTurnAlone t id later)

-- a state at the bound has an instance, or that isn't decided: clauses that aren't plain, or that pass a weight
abbrev pub IsLeftAtBound : Theory → SymbolicState → Ending → Type 0
IsLeftAtBound t s ending = ending ≡ depth_bound → HasInstance t.signature (whole s) ⊎ IsUndecided t.signature s

-- the parts are a right result of the run, whose last state is written so; each step was by one rule, and the next states stand in
-- their rules' turns
pub record IsEndedRun (t : Theory) (o : Options) (request : KorePattern) (x : ExecutedParts) : Type 0 where
  pub state : SymbolicState
  pub of_run : IsLastOfRun t o request state
  pub written : IsStateWritten t.signature state x.state
  pub means : MeansRight t o request x
  pub by_one : PassesByOne t request x.depth
  pub bound : IsLeftAtBound t state x.ending
  pub first : IsFirstTold t state x.ending
  pub order : AreInOrder t x.nexts

-- the run came to this state below its bound, after so many steps; none that it passed is final or has the turn of a listed
-- rule; and of this state something isn't decided
pub record IsUndecidedRun (t : Theory) (o : Options) (request : KorePattern) (d : ℕ) (x : StateParts) (u : Undecided) : Type 0 where
  pub state : SymbolicState
  pub of_run : IsLastOfRun t o request state
  pub below : d < o.bound
  pub written : IsStateWritten t.signature state x
  pub same : IsPatternOf t.signature (pattern_of state.sort x) state
  pub leads : Leads t request (pattern_of state.sort x) d
  pub passes : Passes t (listed_in o) request d
  pub by_one : PassesByOne t request d
  pub reached : (n : ℕ) → d ≡ suc n → OfSome t.signature [] request (λ v c. (later : _) × StepsIn t n c later)
  pub computed : IsComputed t.signature (pattern_of state.sort x)
  pub open_by : IsUndecidedBy t state u

abbrev pub IsRightAnswer : Theory → Options → KorePattern → RunAnswer → Type 0
IsRightAnswer t o request (executed x) = IsEndedRun t o request x
IsRightAnswer t o request (what_is_undecided d x u) = IsUndecidedRun t o request d x u

-- the answer, as it is seen, is a right one
abbrev pub AnswersRight : Theory → Options → KorePattern → Answer → Type 0
AnswersRight t o request a = IsRightAnswer t o request (answer_view a)

-- ---- refusals

-- T1 and T2 tell the first thing that has no place in a state; the signature has no inj for what would be written; a step is
-- refused, or memory ran out: that tells nothing
abbrev pub IsUnexecuted : KoreSignature → KorePattern → ExecuteError → Type 0
IsUnexecuted g p error.Memory = ⊤
IsUnexecuted g p (error.ForeignSymbol name) = state_fault g p ≡ Some (foreign_symbol (string_bytes name))
IsUnexecuted g p error.OtherShape = state_fault g p ≡ Some other_shape
IsUnexecuted g p error.NoInjection = meaning_of g injection_name ≢ injection
IsUnexecuted g p error.NoStep = ⊤
