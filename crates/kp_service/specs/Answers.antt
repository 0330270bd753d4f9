-- What a frame is answered, from what was seen before to what is seen after: its calls in order, each at one book that
-- begins with the one that was seen behind the call before.
-- Source: JSON-RPC 2.0 (response objects, notifications, batches); the K Haskell backend's JSON-RPC documentation.
use Rattle.std.specs.Prelude.{◌≡◌, ℕ, List, [], ◌∷◌, ◌++◌, Option, Some, None, option_map}
use Rattle.serde_json.specs.Data.{Data, array, Items, no_items, item}
use Rattle.serde_json.specs.Written.{compact_text}
use Rattle.kp_rpc.specs.Request.{RequestId, id_null}
use Rattle.kp_rpc.specs.Reply.{RequestError, error_reply, result_reply}
use Rattle.kp_replies.specs.Failures.{Failure, failure_reply}
use Rattle.kp_replies.specs.Written.{added_tree}
use Rattle.kp_requests.specs.Frames.{Asks}
use Rattle.kp_requests.specs.Requests.{execute, implies, simplify, add_module, Asked, asks, refused, Call, single, batch, refused_whole}
use Rattle.kp_book.specs.Books.{Opening, Registration, Seen, Grows, at_book, with_own}
use Rattle.kp_additions.specs.Added.{IsAdded, IsRefusedFor}
use Rattle.kp_methods.specs.Implied.{IsImpliedAs}
use Rattle.kp_service.specs.Answered.{IsReplyIn}
use Rattle.kp_methods.specs.Simplified.{IsSimplifiedAs}
use Rattle.kp_methods.specs.Executed.{IsExecutedAs}

-- ---- one call

-- the reply is right at this book, to a call with this id; to add-module it is an error alone
abbrev pub IsReplyTo : Opening → List Registration → RequestId → Asked → Data → Type 0
IsReplyTo o book id (refused e) reply = reply ≡ error_reply id e
IsReplyTo o book id (asks (execute state options)) reply = IsReplyIn o book options.module_name id (λ s. IsExecutedAs s id options state) reply
IsReplyTo o book id (asks (implies antecedent consequent name)) reply = IsReplyIn o book name id (λ s. IsImpliedAs s.theory.signature id antecedent consequent) reply
IsReplyTo o book id (asks (simplify state name)) reply = IsReplyIn o book name id (λ s. IsSimplifiedAs s.theory.signature id state) reply
IsReplyTo o book id (asks (add_module text name_as_id)) reply = (f : Failure) × IsRefusedFor o book text name_as_id f × (failure_reply id f ≡ Some reply)

-- a call that adds nothing at this book
abbrev pub AddsNothing : Opening → List Registration → Asked → Type 0
AddsNothing o book (asks (add_module text name_as_id)) = (f : Failure) × IsRefusedFor o book text name_as_id f
AddsNothing o book _ = Unit {0}

-- a call that adds this module at this book
abbrev pub Adds : Opening → List Registration → Asked → Registration → Type 0
Adds o book (asks (add_module text name_as_id)) r = IsAdded o book text name_as_id r
Adds o book _ r = ⊥

-- A call is answered at one book that begins with the one that was seen before: with a reply that is right there; or its
-- module is added behind it, the reply is its id, and the entry is one more of the pass's own. A notification has no reply.
pub data IsMember (o : Opening) (before : Seen) (call : Call) : Option Data → Seen → Type 0 where
  told : (at : List Registration) (id : RequestId) (reply : Data) → Grows before.book at → call.id ≡ Some id → IsReplyTo o at id call.asked reply → IsMember o before call (Some reply) (at_book at before)
  added : (between : List Registration) (id : RequestId) (r : Registration) → Grows before.book between → call.id ≡ Some id → Adds o between call.asked r →
      IsMember o before call (Some (result_reply id (added_tree r.id))) (with_own between r before.own)
  silent : (at : List Registration) → Grows before.book at → call.id ≡ None → AddsNothing o at call.asked → IsMember o before call None (at_book at before)
  added_silently : (between : List Registration) (r : Registration) → Grows before.book between → call.id ≡ None → Adds o between call.asked r → IsMember o before call None (with_own between r before.own)

-- ---- calls in order

abbrev pub with_reply : Option Data → List Data → List Data
with_reply None replies = replies
with_reply (Some reply) replies = reply ∷ replies

-- each call is answered behind what is seen after the one before; these are the replies that there are
pub data AreMembers (o : Opening) : Seen → List Call → List Data → Seen → Type 0 where
  none : (seen : Seen) → AreMembers o seen [] [] seen
  next : (before between after : Seen) (call : Call) (reply : Option Data) (calls : List Call) (replies : List Data) →
      IsMember o before call reply between → AreMembers o between calls replies after → AreMembers o before (call ∷ calls) (with_reply reply replies) after

-- ---- frames

abbrev pub items_of : List Data → Items
items_of [] = no_items
items_of (d ∷ ds) = item d (items_of ds)

-- the replies to a batch stand in one array; there is none where there are no replies
abbrev pub batch_reply : List Data → Option Data
batch_reply [] = None
batch_reply (d ∷ ds) = Some (array (items_of (d ∷ ds)))

-- the bytes of a frame are answered with this text, or not at all
pub data IsAnswer (o : Opening) (before : Seen) (bytes : List ℕ) : Option (List ℕ) → Seen → Type 0 where
  refusal : (e : RequestError) → Asks bytes (refused_whole e) → IsAnswer o before bytes (Some (compact_text (error_reply id_null e))) before
  alone : (call : Call) (reply : Option Data) (after : Seen) → Asks bytes (single call) → IsMember o before call reply after → IsAnswer o before bytes (option_map compact_text reply) after
  together : (calls : List Call) (replies : List Data) (after : Seen) → Asks bytes (batch calls) → AreMembers o before calls replies after →
      IsAnswer o before bytes (option_map compact_text (batch_reply replies)) after

-- ---- where memory ran out

-- some first ones of the calls were answered, though no reply was written, and nothing was entered besides
pub record IsFront (o : Opening) (before : Seen) (calls : List Call) (after : Seen) : Type 0 where
  pub done : List Call
  pub more : List Call
  pub are : calls ≡ done ++ more
  pub replies : List Data
  pub between : Seen
  pub answered : AreMembers o before done replies between
  pub at : List Registration
  pub grows : Grows between.book at
  pub looked : after ≡ at_book at between

-- what the bytes of a frame may have done where memory ran out before their answer: nothing was entered; or of a batch the
-- first calls were answered, where memory ran out at a later one or before the replies were put together
pub data IsBegun (o : Opening) (before : Seen) (bytes : List ℕ) : Seen → Type 0 where
  not_begun : (at : List Registration) → Grows before.book at → IsBegun o before bytes (at_book at before)
  begun_together : (calls : List Call) (after : Seen) → Asks bytes (batch calls) → IsFront o before calls after → IsBegun o before bytes after
