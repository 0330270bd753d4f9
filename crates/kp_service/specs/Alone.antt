-- What a connection is answered while no other adds modules: each call at exactly the book that the calls before it made.
-- Source: JSON-RPC 2.0 (response objects, notifications, batches); the K Haskell backend's JSON-RPC documentation (add-module).
use Rattle.std.specs.Prelude.{◌≡◌, ◌<◌, ◌≤◌, ℕ, List, [], ◌∷◌, ◌++◌, length, Option, Some, None, option_map}
use Rattle.serde_json.specs.Data.{Data}
use Rattle.serde_json.specs.Written.{compact_text}
use Rattle.kp_rpc.specs.Request.{RequestId, id_null}
use Rattle.kp_rpc.specs.Reply.{RequestError, error_reply, result_reply}
use Rattle.kp_replies.specs.Written.{added_tree}
use Rattle.kp_requests.specs.Frames.{Asks}
use Rattle.kp_requests.specs.Requests.{Call, single, batch, refused_whole}
use Rattle.kp_book.specs.Books.{Opening, Registration, Seen, with_own}
use Rattle.kp_history.specs.Views.{times}
use Rattle.kp_service.specs.Answers.{Adds, AddsNothing, IsReplyTo, batch_reply, with_reply}

-- the book has no entries but the connection's own, each once
abbrev pub AreAllOwn : Seen → Type 0
AreAllOwn seen = (x : ℕ) → 0 < x → x ≤ length seen.book → times x seen.own ≡ 1

-- a call is answered at the book that was seen before: with a reply that is right there; or its module is added behind that
-- book, and the reply is its id. A notification has no reply.
pub data IsMemberAlone (o : Opening) (before : Seen) (call : Call) : Option Data → Seen → Type 0 where
  told_alone : (id : RequestId) (reply : Data) → call.id ≡ Some id → IsReplyTo o before.book id call.asked reply → IsMemberAlone o before call (Some reply) before
  added_alone : (id : RequestId) (r : Registration) → call.id ≡ Some id → Adds o before.book call.asked r →
      IsMemberAlone o before call (Some (result_reply id (added_tree r.id))) (with_own before.book r before.own)
  silent_alone : call.id ≡ None → AddsNothing o before.book call.asked → IsMemberAlone o before call None before
  added_silently_alone : (r : Registration) → call.id ≡ None → Adds o before.book call.asked r → IsMemberAlone o before call None (with_own before.book r before.own)

-- each call is answered behind what is seen after the one before; these are the replies that there are
pub data AreMembersAlone (o : Opening) : Seen → List Call → List Data → Seen → Type 0 where
  none_alone : (seen : Seen) → AreMembersAlone o seen [] [] seen
  next_alone : (before between after : Seen) (call : Call) (reply : Option Data) (calls : List Call) (replies : List Data) →
      IsMemberAlone o before call reply between → AreMembersAlone o between calls replies after → AreMembersAlone o before (call ∷ calls) (with_reply reply replies) after

-- the bytes of a frame are answered with this text, or not at all
pub data IsAnswerAlone (o : Opening) (before : Seen) (bytes : List ℕ) : Option (List ℕ) → Seen → Type 0 where
  refusal_alone : (e : RequestError) → Asks bytes (refused_whole e) → IsAnswerAlone o before bytes (Some (compact_text (error_reply id_null e))) before
  single_alone : (call : Call) (reply : Option Data) (after : Seen) → Asks bytes (single call) → IsMemberAlone o before call reply after →
      IsAnswerAlone o before bytes (option_map compact_text reply) after
  together_alone : (calls : List Call) (replies : List Data) (after : Seen) → Asks bytes (batch calls) → AreMembersAlone o before calls replies after →
      IsAnswerAlone o before bytes (option_map compact_text (batch_reply replies)) after

-- what the bytes of a frame may have done where memory ran out before their answer: nothing; or of a batch the first calls
-- were answered, though no reply was written
pub data IsBegunAlone (o : Opening) (before : Seen) (bytes : List ℕ) : Seen → Type 0 where
  not_begun_alone : IsBegunAlone o before bytes before
  begun_alone : (done more : List Call) (replies : List Data) (after : Seen) → Asks bytes (batch (done ++ more)) → AreMembersAlone o before done replies after → IsBegunAlone o before bytes after
