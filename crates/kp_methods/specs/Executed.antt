-- Which reply to execute is right over the rules of a module: what is read of its state is a pattern, or its tree's first
-- fault.
-- Source: the K Haskell backend's JSON-RPC documentation (execute, its codes).
use Rattle.std.specs.Prelude.{◌≡◌, ◌≢◌, ℕ, Option, Some, None, Vec}
use Rattle.std.specs.Option.{option_map}
use Rattle.std.specs.declared.alloc.Global.{Global}
use Rattle.serde_json.specs.Data.{Data}
use Rattle.kp_kore.specs.Syntax.{Text, KoreSort, KorePattern}
use Rattle.kp_kore.specs.Signature.{injection, meaning_of}
use Rattle.kp_json.specs.Faults.{Reading, read, fault, TreeFault}
use Rattle.kp_signature.specs.Verify.{VerifiesAs}
use Rattle.kp_compile.specs.Spelled.{injection_name}
use Rattle.kp_clauses.specs.Faults as place
use Rattle.kp_clauses.specs.Faults.{state_fault}
use Rattle.kp_rpc.specs.Request.{RequestId, ExecuteOptions, ExecuteRequest}
use Rattle.kp_rpc.specs.Reply.{PatternRefusal, foreign_symbol, other_shape, no_pattern, not_verified, error_reply, result_reply}
use Rattle.kp_replies.specs.Aborted.{aborted_tree}
use Rattle.kp_replies.specs.Replies.{IsBare}
use Rattle.kp_replies.specs.RightReplies.{IsRightReply, asked_options}
use Rattle.kp_replies.specs.Written.{executed_tree}
use Rattle.kp_methods.specs.Normal.{IsNormal, TellsFirst}
use Rattle.kp_methods.specs.RightResults.{IsTold}
use Rattle.kp_methods.specs.ServedTheory.{ServedTheory}
use Rattle.kp_methods.specs.Simplified.{IsFirstFault, IsReplyLine}
use Rattle.kp_execute.specs.Answers.{RunAnswer, executed, what_is_undecided, IsRightAnswer}
use Rattle.kp_execute.specs.Wants.{LacksInjection}

-- ---- answers

-- the run goes from one ground value to the next, and the reply has the right result of it over the theory, in the normal
-- spelling, without a predicate and next states, and tells the foreign rule that goes first
pub record IsExecuted (s : ServedTheory) (request : ExecuteRequest) (reply : Data) : Type 0 where
  pub is_told : IsTold s request
  pub right : IsRightReply s.theory request reply
  pub normal : IsNormal s.theory request.state is_told.sort right.result.depth right.result.state.term
  pub first : TellsFirst s.theory right.result.ending normal.later.value
  pub bare : IsBare right.result

-- the reply that tells the answer; none where Kore JSON has no tag for a pattern in it
abbrev pub reply_of : RequestId → RunAnswer → Option Data
reply_of id (executed x) = option_map (result_reply id) (executed_tree x)
reply_of id (what_is_undecided depth state u) = option_map (result_reply id) (aborted_tree depth state u)

-- ---- refusals

-- why no answer is told of a verified pattern: it isn't one term and predicates; the signature has no inj, and one would stand in
-- what is written for the end of a right run
pub data IsUntold (s : ServedTheory) (options : ExecuteOptions) (p : KorePattern) : Type 0 where
  no_state : state_fault s.theory.signature p ≡ Some place.other_shape → IsUntold s options p
  no_injection : meaning_of s.theory.signature injection_name ≢ injection → LacksInjection s.theory (asked_options options) p → IsUntold s options p

-- ---- replies

-- to a pattern that verifies: the run of a ground value; a right answer; T1 of the first thing from the left that has no place in
-- a state, where that is a foreign symbol; else T2
pub data IsUnderstoodAs (s : ServedTheory) (id : RequestId) (options : ExecuteOptions) (p : KorePattern) : Data → Type 0 where
  by_values : (reply : Data) → IsExecuted s (record { id = id; state = p; options = options }) reply → IsUnderstoodAs s id options p reply
  told : (a : RunAnswer) (reply : Data) → state_fault s.theory.signature p ≡ None → IsRightAnswer s.theory (asked_options options) p a → reply_of id a ≡ Some reply → IsUnderstoodAs s id options p reply
  foreign : (name : Text) → state_fault s.theory.signature p ≡ Some (place.foreign_symbol name) → IsUnderstoodAs s id options p (error_reply id (not_verified (foreign_symbol name)))
  left_out : IsUntold s options p → IsUnderstoodAs s id options p (error_reply id (not_verified other_shape))

-- the tree spells no pattern; the pattern has a verify fault; or it verifies
pub data IsExecutedAs (s : ServedTheory) (id : RequestId) (options : ExecuteOptions) : Reading KorePattern → Data → Type 0 where
  unread : (f : TreeFault) → IsExecutedAs s id options (fault f) (error_reply id (no_pattern f))
  faulty : (p : KorePattern) (f : PatternRefusal) → IsFirstFault s.theory.signature p f → IsExecutedAs s id options (read p) (error_reply id (not_verified f))
  understood : (p : KorePattern) (sort : KoreSort) (reply : Data) → VerifiesAs s.theory.signature p sort → IsUnderstoodAs s id options p reply → IsExecutedAs s id options (read p) reply

-- ---- lines

-- the line is that of a reply that is right for what was read of a state
abbrev pub IsExecutedLine : ServedTheory → RequestId → ExecuteOptions → Reading KorePattern → Vec ℕ Global → Type 0
IsExecutedLine s id options state line = IsReplyLine (IsExecutedAs s id options state) line.items

-- the same of a pattern that verifies
abbrev pub IsUnderstoodLine : ServedTheory → RequestId → ExecuteOptions → KorePattern → Vec ℕ Global → Type 0
IsUnderstoodLine s id options p line = IsReplyLine (IsUnderstoodAs s id options p) line.items

-- the same of a pattern whose run goes from one ground value to the next
abbrev pub IsGroundLine : ServedTheory → RequestId → ExecuteOptions → KorePattern → Vec ℕ Global → Type 0
IsGroundLine s id options p line = IsReplyLine (IsExecuted s (record { id = id; state = p; options = options })) line.items
