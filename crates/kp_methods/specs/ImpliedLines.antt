-- What is told between a request of implies and its reply; for private clauses.
use Rattle.std.specs.Prelude.{◌≡◌, ℕ, List, Some, ⊤}
use Rattle.serde_json.specs.Data.{Data}
use Rattle.kp_kore.specs.Syntax.{KoreSort, KorePattern}
use Rattle.kp_kore.specs.Signature.{KoreSignature}
use Rattle.kp_kore.specs.View.{sort_view}
use Rattle.kp_kore.specs.Implied.{Implied}
use Rattle.kp_json.specs.Faults.{Reading, read, fault, TreeFault}
use Rattle.kp_symbolic.specs.Endings.{Result}
use Rattle.kp_clauses.specs.Faults as place
use Rattle.kp_rpc.specs.Request.{RequestId}
use Rattle.kp_rpc.specs.Reply.{PatternRefusal, foreign_symbol, other_shape, no_pattern, error_reply, reply_bytes}
use Rattle.kp_rpc.specs.View.{pattern_fault_view, state_fault_view}
use Rattle.kp_rpc.specs.declared.fault.StateFault.TheVariants as state
use Rattle.kp_replies.specs.Failures.{bad_sides, failure_reply}
use Rattle.kp_sides.specs.Sides.{SidesFault, IsSidesFault, AreComparable}
use Rattle.kp_sides.specs.View.{sides_fault_view}
use Rattle.kp_implies.specs.Answers.{IsRightOfSides}
use Rattle.kp_implies.specs.Promises.{IsRightFor}
use Rattle.kp_methods.specs.declared.failure.PatternFailure.TheVariants as failure
use Rattle.kp_methods.specs.declared.implies.Told.{Told}
use Rattle.kp_methods.specs.declared.sides.ImpliesFailure.{ImpliesFailure}
use Rattle.kp_methods.specs.declared.sides.ImpliesFailure.TheVariants as sides
use Rattle.kp_methods.specs.Simplified.{IsReplyLine}
use Rattle.kp_methods.specs.Implied.{AreFaultless, IsImpliesError, IsSideRefusal, told_fault}

-- ---- lines

-- the line is that of such a reply
abbrev pub IsLineOf : (Data → Type 0) → List ℕ → Type 0
IsLineOf IsRight line = (reply : Data) × IsRight reply × (line ≡ reply_bytes reply)

-- the line tells a fault of both sides
abbrev pub IsSidesLine : RequestId → SidesFault → List ℕ → Type 0
IsSidesLine id f line = IsReplyLine (λ reply. failure_reply id (bad_sides (told_fault f)) ≡ Some reply) line

-- the line tells a fault; want of memory has none
abbrev pub IsFaultLine : RequestId → ImpliesFailure → List ℕ → Type 0
IsFaultLine id (sides.Side failure.Memory) line = ⊥
IsFaultLine id (sides.Side (failure.Fault f)) line = line ≡ reply_bytes (error_reply id (state_fault_view f))
IsFaultLine id (sides.Sides f) line = IsSidesLine id (sides_fault_view f) line

-- ---- what was read

-- a failure tells the fault of the tree; want of memory tells nothing
abbrev pub IsTreeFailure : Reading KorePattern → ImpliesFailure → Type 0
IsTreeFailure state (sides.Side failure.Memory) = ⊤
IsTreeFailure state (sides.Side (failure.Fault f)) = (x : TreeFault) × (state ≡ fault x) × (state_fault_view f ≡ no_pattern x)
IsTreeFailure state (sides.Sides f) = ⊥

-- how what can't stand in a side is told: T1, T2
abbrev pub refusal_of : place.StateFault → PatternRefusal
refusal_of (place.foreign_symbol name) = foreign_symbol name
refusal_of place.other_shape = other_shape

-- it tells what is wrong with one side by itself
abbrev pub IsSideFailure : KoreSignature → KorePattern → KorePattern → ImpliesFailure → Type 0
IsSideFailure g p body (sides.Side failure.Memory) = ⊤
IsSideFailure g p body (sides.Side (failure.Fault (state.Json f))) = ⊥
IsSideFailure g p body (sides.Side (failure.Fault (state.Verify f))) = IsSideRefusal g p body (pattern_fault_view f)
IsSideFailure g p body (sides.Side (failure.Fault (state.NoModule name))) = ⊥
IsSideFailure g p body (sides.Sides f) = ⊥

-- it tells why two sides without a fault of their own aren't comparable
abbrev pub IsBothFailure : KoreSignature → KorePattern → KorePattern → ImpliesFailure → Type 0
IsBothFailure g a c (sides.Side failure.Memory) = ⊤
IsBothFailure g a c (sides.Side (failure.Fault f)) = ⊥
IsBothFailure g a c (sides.Sides f) = IsSidesFault g a c (sides_fault_view f)

-- two patterns were read that have no fault of their own, and this one together
pub record AreIncomparable (g : KoreSignature) (antecedent consequent : Reading KorePattern) (f : SidesFault) : Type 0 where
  pub left : KorePattern
  pub right : KorePattern
  pub is_left : antecedent ≡ read left
  pub is_right : consequent ≡ read right
  pub faultless : AreFaultless g left right
  pub wrong : IsSidesFault g left right f

-- it tells what is wrong with the sides of implies
abbrev pub IsSidesFailure : KoreSignature → Reading KorePattern → Reading KorePattern → ImpliesFailure → Type 0
IsSidesFailure g antecedent consequent (sides.Side failure.Memory) = ⊤
IsSidesFailure g antecedent consequent (sides.Side (failure.Fault f)) = IsImpliesError g antecedent consequent (state_fault_view f)
IsSidesFailure g antecedent consequent (sides.Sides f) = AreIncomparable g antecedent consequent (sides_fault_view f)

-- ---- what was found

-- neither side has a fault of its own, nor both together; the antecedent has this sort
pub record AreChecked (g : KoreSignature) (a c : KorePattern) (sort : KoreSort) : Type 0 where
  pub faultless : AreFaultless g a c
  pub is : faultless.sort ≡ sort
  pub comparable : AreComparable g a c

-- it was found of two patterns that were read, that have no fault and are comparable
pub record IsToldOf (g : KoreSignature) (antecedent consequent : Reading KorePattern) (x : Told) : Type 0 where
  pub left : KorePattern
  pub right : KorePattern
  pub is_left : antecedent ≡ read left
  pub is_right : consequent ≡ read right
  pub faultless : AreFaultless g left right
  pub comparable : AreComparable g left right
  pub sort : faultless.sort ≡ sort_view x.sort
  pub found : IsRightFor g left right x.found

-- an answer that is right of two patterns that were read
pub record IsAnswerOf (g : KoreSignature) (antecedent consequent : Reading KorePattern) (answer : Result Implied) : Type 0 where
  pub left : KorePattern
  pub right : KorePattern
  pub is_left : antecedent ≡ read left
  pub is_right : consequent ≡ read right
  pub faultless : AreFaultless g left right
  pub comparable : AreComparable g left right
  pub is_right_answer : IsRightOfSides g left right answer
