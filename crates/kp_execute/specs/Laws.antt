-- The longer statements of the laws, by name.
-- Source: this project.
use Rattle.std.specs.Prelude.{◌≡◌, true, false, List}
use Rattle.std.specs.List.{AllByRecursion, list_any}
use Rattle.std.specs.Str.{bytes_eq}
use Rattle.kp_kore.specs.Syntax.{Text, KorePattern}
use Rattle.kp_kore.specs.Parts.{free_variables}
use Rattle.kp_kore.specs.Signature.{KoreSignature}
use Rattle.kp_kore.specs.Replies.{IsAbsent, IsComputed}
use Rattle.kp_kore.specs.Theory.{Theory}
use Rattle.kp_kore.specs.Executions.{Options, Executed, IsRightExecuted}
use Rattle.kp_symbolic.specs.States.{SymbolicState}
use Rattle.kp_symbolic.specs.View.{state_view}
use Rattle.kp_case_laws.specs.NextStates.{HaveOwnIds}
use Rattle.kp_results.specs.Results.{ExecutedParts, IsResultOf}
use Rattle.kp_step.specs.Ready.{IsReadyState}
use Rattle.kp_execute.specs.Endings.{IsRightRun}
use Rattle.kp_execute.specs.declared.ending.Run.{Run}
use Rattle.kp_execute.specs.Written.{pattern_of, IsRunWritten}
use Rattle.kp_execute.specs.Told.{IsToldEnd, IsReadRight, IsRequestOf}

-- a right run of the request's state, as it is written
pub record IsWrittenRunOf (t : Theory) (o : Options) (used : List Text) (request : KorePattern) (s : SymbolicState) (r : Run) (x : ExecutedParts) : Type 0 where
  pub own_ids : HaveOwnIds t.rules
  pub request_of : IsRequestOf t.signature used request s
  pub run : IsRightRun t o used s r
  pub told : IsToldEnd t r.ending
  pub written : IsRunWritten t r x
  pub computed : IsComputed t.signature (pattern_of (state_view r.state).sort x.state)

-- the parts mean a right result
pub record MeansRight (t : Theory) (o : Options) (request : KorePattern) (x : ExecutedParts) : Type 0 where
  pub result : Executed
  pub is : IsResultOf x result
  pub right : IsRightExecuted t o request result

-- for each of the six reasons
abbrev pub SaysRight : Theory → Type 0
SaysRight t =
    (o : Options) (used : List Text) (request : KorePattern) (s : SymbolicState) (r : Run) (x : ExecutedParts) →
    IsWrittenRunOf t o used request s r x → MeansRight t o request x

-- a run may begin with the state that a verified request is read as, whose names are in use
abbrev pub BeginsReady : KoreSignature → Type 0
BeginsReady g =
    (used : List Text) (request : KorePattern) (s : SymbolicState) →
    IsReadRight g request s → AllByRecursion (λ x. list_any (bytes_eq x.name) used ≡ true) (free_variables request) → IsReadyState g used s 1

-- and that state is the request's
abbrev pub ReadsRequest : KoreSignature → Type 0
ReadsRequest g =
    (used : List Text) (request : KorePattern) (s : SymbolicState) →
    IsReadRight g request s → ((x : Text) → list_any (bytes_eq x) used ≡ false → IsAbsent x request) → IsRequestOf g used request s
