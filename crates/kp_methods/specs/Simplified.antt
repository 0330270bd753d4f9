-- Which reply to simplify is right over a signature.
-- Source: the K Haskell backend's JSON-RPC documentation (simplify, its codes).
use Rattle.std.specs.Prelude.{◌≡◌, ◌≢◌, ℕ, List, Option, Some, None}
use Rattle.std.specs.Option.{option_map}
use Rattle.serde_json.specs.Data.{Data}
use Rattle.kp_kore.specs.Syntax.{Text, KoreSort, KorePattern, bottom}
use Rattle.kp_kore.specs.Signature.{KoreSignature, injection, meaning_of}
use Rattle.kp_json.specs.Faults.{Reading, read, fault, TreeFault}
use Rattle.kp_signature.specs.Verify.{VerifiesAs}
use Rattle.kp_compile.specs.Spelled.{injection_name}
use Rattle.kp_kore.specs.Implied.{Simplified, state, nothing}
use Rattle.kp_symbolic.specs.Endings.{Result, answered, what_is_undecided, IsRightOfSimplify, IsSimplifyFloorKept}
use Rattle.kp_clauses.specs.Faults as place
use Rattle.kp_clauses.specs.Faults.{state_fault}
use Rattle.kp_rpc.specs.Request.{RequestId}
use Rattle.kp_rpc.specs.Reply.{PatternRefusal, foreign_symbol, other_shape, no_pattern, not_verified, error_reply, result_reply, reply_bytes}
use Rattle.kp_replies.specs.Failures.{undecided, failure_reply}
use Rattle.kp_replies.specs.Written.{simplified_tree}
use Rattle.kp_methods.specs.RightResults.{IsPatternFault, NoneLeftOut}
use Rattle.kp_simplify.specs.Spelled.{parts_of_cause}
use Rattle.kp_simplify.specs.Told.{LacksInjection}

-- ---- answers

-- a right answer for the pattern, in which nothing is misplaced; it leaves no state open that must be decided
pub record IsRightAnswer (g : KoreSignature) (p : KorePattern) (r : Result Simplified) : Type 0 where
  pub clear : state_fault g p ≡ None
  pub right : IsRightOfSimplify g p r
  pub floor : IsSimplifyFloorKept g p r

-- the pattern that is told of a result: the state, or \bottom of its sort
abbrev pub pattern_of : Simplified → KorePattern
pattern_of (state q) = q
pattern_of (nothing s) = bottom s

-- the reply that tells the answer: a result, or code 5 with its cause; none where Kore JSON has no tag for a pattern in it
abbrev pub reply_of : RequestId → Result Simplified → Option Data
reply_of id (answered r) = option_map (λ tree. result_reply id tree) (simplified_tree (pattern_of r))
reply_of id (what_is_undecided cause) = failure_reply id (undecided (parts_of_cause cause))

-- ---- refusals

-- a verify fault, of a pattern that doesn't verify
pub record IsFirstFault (g : KoreSignature) (p : KorePattern) (f : PatternRefusal) : Type 0 where
  pub tells : IsPatternFault g NoneLeftOut p f
  pub unverified : (sort : KoreSort) → ¬ VerifiesAs g p sort

-- a reply that tells such a fault
pub data IsFaultTold (g : KoreSignature) (id : RequestId) (p : KorePattern) : Data → Type 0 where
  fault_told : (f : PatternRefusal) → IsFirstFault g p f → IsFaultTold g id p (error_reply id (not_verified f))

-- why no answer is told of a verified pattern: it isn't one term and predicates; an inj would stand in the answer, and the
-- signature has none
pub data IsUntold (g : KoreSignature) (p : KorePattern) : Type 0 where
  no_state : state_fault g p ≡ Some place.other_shape → IsUntold g p
  no_injection : meaning_of g injection_name ≢ injection → LacksInjection g p → IsUntold g p

-- ---- replies

-- to a pattern that verifies: a right answer; T1 of the first thing from the left that has no place in a state, where that is
-- a foreign symbol; else T2
pub data IsUnderstoodAs (g : KoreSignature) (id : RequestId) (p : KorePattern) : Data → Type 0 where
  told : (r : Result Simplified) (reply : Data) → IsRightAnswer g p r → reply_of id r ≡ Some reply → IsUnderstoodAs g id p reply
  foreign : (name : Text) → state_fault g p ≡ Some (place.foreign_symbol name) → IsUnderstoodAs g id p (error_reply id (not_verified (foreign_symbol name)))
  left_out : IsUntold g p → IsUnderstoodAs g id p (error_reply id (not_verified other_shape))

-- the tree spells no pattern; the pattern has a verify fault; or it verifies
pub data IsSimplifiedAs (g : KoreSignature) (id : RequestId) : Reading KorePattern → Data → Type 0 where
  unread : (f : TreeFault) → IsSimplifiedAs g id (fault f) (error_reply id (no_pattern f))
  faulty : (p : KorePattern) (f : PatternRefusal) → IsFirstFault g p f → IsSimplifiedAs g id (read p) (error_reply id (not_verified f))
  understood : (p : KorePattern) (sort : KoreSort) (reply : Data) → VerifiesAs g p sort → IsUnderstoodAs g id p reply → IsSimplifiedAs g id (read p) reply

-- ---- lines

-- the line is that of a reply of which this holds
abbrev pub IsReplyLine : (Data → Type 0) → List ℕ → Type 0
IsReplyLine IsRight line = (reply : Data) × IsRight reply × (line ≡ reply_bytes reply)
