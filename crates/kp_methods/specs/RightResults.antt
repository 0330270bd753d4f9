-- That a reply is right: from the bytes that were taken to the bytes of the reply, for the theory that is served.
-- The bytes are white space, or a frame that is refused, or a request of execute, which is at fault or whose run over the
-- theory ends as the reply says, or a request of implies, which is at fault or whose sides imply one another over the
-- theory as the reply says.
-- Source: K's rewriting (the theory and its runs), Kore JSON, JSON-RPC 2.0, the K Haskell backend's
-- JSON-RPC documentation (execute, implies).
use Rattle.std.specs.Prelude.{◌≡◌, Some, None}
use Rattle.kp_kore.specs.Syntax.{KoreSort, KorePattern}
use Rattle.kp_kore.specs.Signature.{KoreSignature}
use Rattle.kp_signature.specs.Verify.{FailsWith, VerifiesAs}
use Rattle.kp_compile.specs.Spelled.{first_foreign}
use Rattle.kp_rpc.specs.Request.{ExecuteRequest}
use Rattle.kp_rpc.specs.Reply.{PatternRefusal, unverified, foreign_symbol, other_shape}
use Rattle.kp_methods.specs.ServedTheory.{ServedTheory}
use Rattle.kp_methods.specs.Untold.{IsUntold}

-- ---- replies with a result

-- the state that a request gives verifies, has no foreign symbol, and no cause why its run isn't told
pub record IsTold (s : ServedTheory) (request : ExecuteRequest) : Type 0 where
  pub sort : KoreSort
  pub verifies : VerifiesAs s.theory.signature request.state sort
  pub no_foreign : first_foreign s.theory.signature request.state ≡ None
  pub told : ¬ IsUntold s request.options request.state sort

-- ---- replies with an error

-- V1 to V7 tell the pattern's first fault; T1, where it has none, its first foreign symbol; T2, where it has neither, that
-- it is left out
abbrev pub IsPatternFault : KoreSignature → (KorePattern → KoreSort → Type 0) → KorePattern → PatternRefusal → Type 0
IsPatternFault g LeftOut p (unverified f) = FailsWith g p f
IsPatternFault g LeftOut p (foreign_symbol name) = (s : KoreSort) × VerifiesAs g p s × (first_foreign g p ≡ Some name)
IsPatternFault g LeftOut p other_shape = (s : KoreSort) × VerifiesAs g p s × (first_foreign g p ≡ None) × LeftOut p s

-- no pattern is left out for a cause of its own
abbrev pub NoneLeftOut : KorePattern → KoreSort → Type 0
NoneLeftOut p sort = ⊥
