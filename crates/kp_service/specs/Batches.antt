-- What is told of calls while a frame is answered; for private clauses.
use Rattle.std.specs.Prelude.{◌≡◌, ℕ, List, [], ◌∷◌, ◌++◌, Option, Some, None, option_map, ⊤}
use Rattle.serde_json.specs.Data.{Data}
use Rattle.serde_json.specs.Written.{compact_text}
use Rattle.kp_rpc.specs.Request.{RequestId}
use Rattle.kp_rpc.specs.Reply.{reply_bytes, result_reply}
use Rattle.kp_replies.specs.Failures.{Failure, bad_module, duplicate}
use Rattle.kp_replies.specs.Written.{added_tree}
use Rattle.kp_requests.specs.Requests.{Asked, Call}
use Rattle.kp_book.specs.Books.{Opening, Registration, Seen, Grows, at_book, with_own}
use Rattle.kp_registry.specs.declared.book.Registry.{Registry}
use Rattle.kp_additions.specs.Served.{HasSeenAt, Pass}
use Rattle.kp_conn.specs.Conversations.{ForEachSeen}
use Rattle.kp_service.specs.Answers.{Adds, AddsNothing, IsReplyTo, IsMember, AreMembers, batch_reply}

-- whatever the pass had seen, this holds from it to what the pass has seen after
abbrev pub FromEachBookSeen : Registry → Pass → Pass → (Opening → Seen → Seen → Type 0) → Type 0
FromEachBookSeen registry before after Holds = ForEachSeen (HasSeenAt registry before) (HasSeenAt registry after) Holds

-- a call with this id, or a notification
abbrev pub call_of : Option RequestId → Asked → Call
call_of id asked = record { id = id; asked = asked }

-- the line replies to what is asked, and this is seen behind it
pub data IsReplyLine (o : Opening) (before : Seen) (id : RequestId) (asked : Asked) (line : List ℕ) : Seen → Type 0 where
  line_told : (at : List Registration) (reply : Data) → Grows before.book at → IsReplyTo o at id asked reply → line ≡ reply_bytes reply → IsReplyLine o before id asked line (at_book at before)
  line_added : (between : List Registration) (r : Registration) → Grows before.book between → Adds o between asked r → line ≡ reply_bytes (result_reply id (added_tree r.id)) →
      IsReplyLine o before id asked line (with_own between r before.own)

-- what is asked took effect
pub data IsEffect (o : Opening) (before : Seen) (asked : Asked) : Seen → Type 0 where
  adds_nothing : (at : List Registration) → Grows before.book at → AddsNothing o at asked → IsEffect o before asked (at_book at before)
  adds : (between : List Registration) (r : Registration) → Grows before.book between → Adds o between asked r → IsEffect o before asked (with_own between r before.own)

-- nothing was entered, though more may have been seen
pub data HasDoneNothing (before : Seen) : Seen → Type 0 where
  did_nothing : (at : List Registration) → Grows before.book at → HasDoneNothing before (at_book at before)

-- the causes why a module isn't added are told with data
abbrev pub IsAddFailure : Failure → Type 0
IsAddFailure (bad_module f) = ⊤
IsAddFailure (duplicate n name) = ⊤
IsAddFailure _ = ⊥

-- the call is answered with this text
abbrev pub IsMemberText : Opening → Seen → Call → Option (List ℕ) → Seen → Type 0
IsMemberText o book call text after = (reply : Option Data) × IsMember o book call reply after × (text ≡ option_map compact_text reply)

-- ---- the text of the replies to a batch, before its end

abbrev pub texts_behind : List Data → List ℕ
texts_behind [] = []
texts_behind (d ∷ ds) = 44 ∷ (compact_text d ++ texts_behind ds)

abbrev pub batch_front : List Data → List ℕ
batch_front [] = []
batch_front (d ∷ ds) = 91 ∷ (compact_text d ++ texts_behind ds)

-- one more text behind others: behind a bracket where it is the first, else behind a comma
abbrev pub text_with : List ℕ → List ℕ → List ℕ
text_with [] text = 91 ∷ text
text_with (b ∷ before) text = (b ∷ before) ++ 44 ∷ text

-- the text with one more reply, where there is one
abbrev pub text_then : List ℕ → Option Data → List ℕ
text_then before None = before
text_then before (Some reply) = text_with before (compact_text reply)

-- the text with its end, where there is any
abbrev pub text_closed : List ℕ → Option (List ℕ)
text_closed [] = None
text_closed (b ∷ before) = Some ((b ∷ before) ++ 93 ∷ [])

-- the call is answered, and its reply stands behind the others
abbrev pub IsNextTold : Opening → Seen → Call → List ℕ → List ℕ → Seen → Type 0
IsNextTold o book call text longer after = (reply : Option Data) × IsMember o book call reply after × (longer ≡ text_then text reply)

-- these calls were answered, and this text begins their array
pub record AreTold (o : Opening) (before : Seen) (calls : List Call) (text : List ℕ) (after : Seen) : Type 0 where
  pub replies : List Data
  pub members : AreMembers o before calls replies after
  pub is_text : text ≡ batch_front replies

-- of these calls the first ones were answered, and this text begins their array
pub record AreFirstTold (o : Opening) (before : Seen) (calls : List Call) (text : List ℕ) (rest : List Call) (after : Seen) : Type 0 where
  pub done : List Call
  pub are : calls ≡ done ++ rest
  pub told : AreTold o before done text after

-- the batch is answered with this text
abbrev pub AreMembersText : Opening → Seen → List Call → Option (List ℕ) → Seen → Type 0
AreMembersText o book calls text after = (replies : List Data) × AreMembers o book calls replies after × (text ≡ option_map compact_text (batch_reply replies))
