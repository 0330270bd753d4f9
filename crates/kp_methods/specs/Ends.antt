-- What is told between a request and its reply; for private clauses.
use Rattle.std.specs.Prelude.{◌≡◌, [], Some, None, ⊤, string_bytes}
use Rattle.kp_kore.specs.Syntax.{KoreSort, KorePattern}
use Rattle.kp_kore.specs.Signature.{KoreSignature}
use Rattle.kp_signature.specs.Verify.{FailsWith, VerifiesAs, VerifyFault}
use Rattle.kp_compile.specs.Spelled.{IsOtherShape, first_foreign, IsGroundState}
use Rattle.kp_results.specs.Results.{Ending, stuck, depth_bound, aborted, ExecutedParts}
use Rattle.kp_kore.specs.View.{sort_view}
use Rattle.kp_signature.specs.Faults.{fault_view}
use Rattle.kp_signature.specs.declared.error.VerifyError.{VerifyError}
use Rattle.kp_kore.specs.Causes.{foreign}
use Rattle.kp_ground.specs.View.{value_view}
use Rattle.kp_compile.specs.declared.state.GroundState.{GroundState}
use Rattle.kp_run.specs.declared.run.GroundRun.{GroundRun}
use Rattle.kp_run.specs.declared.run.GroundEnding.{GroundEnding}
use Rattle.kp_run.specs.declared.run.GroundEnding.TheVariants.{Stuck, DepthBound, ForeignRule}
use Rattle.kp_rpc.specs.View.{pattern_fault_view}
use Rattle.kp_rpc.specs.declared.fault.StateFault.TheVariants as fault
use Rattle.kp_methods.specs.RightResults.{IsPatternFault}
use Rattle.kp_methods.specs.declared.failure.PatternFailure.{PatternFailure}
use Rattle.kp_methods.specs.declared.failure.PatternFailure.TheVariants as failure

-- ---- failures

-- a failure tells what is wrong with a pattern; want of memory tells nothing
abbrev pub IsWrongPattern : KoreSignature → (KorePattern → KoreSort → Type 0) → KorePattern → PatternFailure → Type 0
IsWrongPattern g LeftOut p failure.Memory = ⊤
IsWrongPattern g LeftOut p (failure.Fault (fault.Json f)) = ⊥
IsWrongPattern g LeftOut p (failure.Fault (fault.Verify f)) = IsPatternFault g LeftOut p (pattern_fault_view f)
IsWrongPattern g LeftOut p (failure.Fault (fault.NoModule name)) = ⊥

-- the error tells the pattern's first fault
abbrev pub TellsFault : KoreSignature → KorePattern → VerifyError → Type 0
TellsFault g p e = (f : VerifyFault) → fault_view e ≡ Some f → FailsWith g p f

-- ---- states and runs

-- the state is that of a verified pattern of this sort
pub record IsStateAt (g : KoreSignature) (p : KorePattern) (sort : KoreSort) (s : GroundState) : Type 0 where
  pub no_foreign : first_foreign g p ≡ None
  pub shape : ¬ IsOtherShape g p
  pub sort_is : sort_view s.sort ≡ sort
  pub ground : VerifiesAs g p sort → IsGroundState g p (sort_view s.sort) (value_view s.value)

-- ---- lines

-- why a run ended
abbrev pub ending_of : GroundEnding → Ending
ending_of Stuck = stuck
ending_of DepthBound = depth_bound
ending_of (ForeignRule id) = aborted (foreign (string_bytes id))

-- the result of a run that ended so, with its state spelled so
abbrev pub result_of : GroundRun → KorePattern → ExecutedParts
result_of end p = record { depth = end.depth; ending = ending_of end.stop; state = record { term = p; predicate = None }; nexts = [] }
