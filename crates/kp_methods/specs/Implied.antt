-- Which reply to implies is right over a signature: what is read of its sides is a pattern, or its tree's first fault.
-- Source: the K Haskell backend's JSON-RPC documentation (implies, its codes).
use Rattle.std.specs.Prelude.{◌≡◌, ◌≢◌, Option, Some, None}
use Rattle.std.specs.Option.{option_map}
use Rattle.serde_json.specs.Data.{Data}
use Rattle.kp_kore.specs.Syntax.{KoreSort, KorePattern}
use Rattle.kp_kore.specs.Rules.{under_binders}
use Rattle.kp_kore.specs.Signature.{KoreSignature, injection, meaning_of}
use Rattle.kp_kore.specs.Implied.{Implied}
use Rattle.kp_json.specs.Faults.{Reading, read, fault}
use Rattle.kp_signature.specs.Verify.{FailsWith, VerifiesAs}
use Rattle.kp_compile.specs.Spelled.{injection_name}
use Rattle.kp_symbolic.specs.Endings.{Result, answered, what_is_undecided}
use Rattle.kp_clauses.specs.Faults as place
use Rattle.kp_rpc.specs.Request.{RequestId}
use Rattle.kp_rpc.specs.Reply.{RequestError, PatternRefusal, unverified, foreign_symbol, other_shape, no_pattern, not_verified, error_reply, result_reply}
use Rattle.kp_replies.specs.Failures.{not_in_a_term, not_one_term, two_meanings, undecided, failure_reply}
use Rattle.kp_replies.specs.Failures as failures
use Rattle.kp_replies.specs.Written.{implied_tree}
use Rattle.kp_simplify.specs.Spelled.{parts_of_cause}
use Rattle.kp_sides.specs.Sides.{SidesFault, idle, other_terms, unclear_name, IsSidesFault, AreComparable, side_fault}
use Rattle.kp_implies.specs.Answers.{IsRightOfSides}

-- ---- one side

-- what is wrong with a side by itself, of which `body` stands under its binders: its first verify fault; or, of a side that
-- verifies, what can't stand in it
abbrev pub IsSideRefusal : KoreSignature → KorePattern → KorePattern → PatternRefusal → Type 0
IsSideRefusal g p body (unverified f) = FailsWith g p f
IsSideRefusal g p body (foreign_symbol name) = (s : KoreSort) × VerifiesAs g p s × (side_fault g body ≡ Some (place.foreign_symbol name))
IsSideRefusal g p body other_shape = (s : KoreSort) × VerifiesAs g p s × (side_fault g body ≡ Some place.other_shape)

-- nothing is; the side verifies at this sort
pub record IsFaultlessSide (g : KoreSignature) (p body : KorePattern) (sort : KoreSort) : Type 0 where
  pub verifies : VerifiesAs g p sort
  pub clear : side_fault g body ≡ None

-- ---- both sides

-- neither side has a fault of its own
pub record AreFaultless (g : KoreSignature) (a c : KorePattern) : Type 0 where
  pub sort : KoreSort
  pub other : KoreSort
  pub antecedent : IsFaultlessSide g a a sort
  pub consequent : IsFaultlessSide g c (under_binders c) other

-- why no answer is told of sides that are comparable: an inj would have to be written, and the signature has none
abbrev pub IsImpliesUntold : KoreSignature → Type 0
IsImpliesUntold g = meaning_of g injection_name ≢ injection

-- what is wrong with two patterns: the antecedent has a fault; the consequent has one; no answer is told of them
pub data IsSidesError (g : KoreSignature) (a c : KorePattern) : RequestError → Type 0 where
  in_antecedent : (f : PatternRefusal) → IsSideRefusal g a a f → IsSidesError g a c (not_verified f)
  in_consequent : (sort : KoreSort) (f : PatternRefusal) → IsFaultlessSide g a a sort → IsSideRefusal g c (under_binders c) f → IsSidesError g a c (not_verified f)
  untold : AreFaultless g a c → AreComparable g a c → IsImpliesUntold g → IsSidesError g a c (not_verified other_shape)

-- what is wrong with the sides: a tree spells no pattern, the antecedent's before the consequent's
abbrev pub IsImpliesError : KoreSignature → Reading KorePattern → Reading KorePattern → RequestError → Type 0
IsImpliesError g (fault f) consequent e = e ≡ no_pattern f
IsImpliesError g (read a) (fault f) e = e ≡ no_pattern f
IsImpliesError g (read a) (read c) e = IsSidesError g a c e

-- how a fault of both sides is told: I1, I2, I3
abbrev pub told_fault : SidesFault → failures.SidesFault
told_fault (idle name) = not_in_a_term name
told_fault other_terms = not_one_term
told_fault (unclear_name name) = two_meanings name

-- the reply that tells the answer: a result, or code 5 with its cause; none where Kore JSON has no tag for a pattern in it
abbrev pub reply_of : RequestId → Result Implied → Option Data
reply_of id (answered r) = option_map (λ tree. result_reply id tree) (implied_tree r)
reply_of id (what_is_undecided cause) = failure_reply id (undecided (parts_of_cause cause))

pub data IsImpliedAs (g : KoreSignature) (id : RequestId) : Reading KorePattern → Reading KorePattern → Data → Type 0 where
  bad_sides : (a c : Reading KorePattern) (e : RequestError) → IsImpliesError g a c e → IsImpliedAs g id a c (error_reply id e)
  -- sides without a fault of their own that aren't comparable
  incomparable : (a c : KorePattern) (f : SidesFault) (reply : Data) → AreFaultless g a c → IsSidesFault g a c f → failure_reply id (failures.bad_sides (told_fault f)) ≡ Some reply → IsImpliedAs g id (read a) (read c) reply
  -- a right answer of sides that are
  told : (a c : KorePattern) (r : Result Implied) (reply : Data) → AreFaultless g a c → AreComparable g a c → IsRightOfSides g a c r → reply_of id r ≡ Some reply → IsImpliedAs g id (read a) (read c) reply
