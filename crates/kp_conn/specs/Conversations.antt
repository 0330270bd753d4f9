-- One connection: what is answered to the frames of a stream, what is written, and where it may break off.
-- Source: JSON-RPC 2.0 over a stream; each reply is a line.
use Rattle.std.specs.Prelude.{◌≡◌, ℕ, suc, Bool, true, false, List, [], ◌∷◌, ◌++◌, length, take, Option, Some, None, codes}
use Rattle.std.specs.Io.KnownBytes.{Appends, Consumes, IsAtEnd}
use Rattle.kp_frames.specs.Frames.{Cuts, begins_bracketed, most_frame}
use Rattle.kp_book.specs.Books.{Opening, Seen, SeenGrows}
use Rattle.kp_conn.specs.declared.served.Served.{Served}
use Rattle.kp_conn.specs.declared.served.Served.TheVariants as served

-- the bytes after which a connection ends
abbrev pub most_taken : ℕ
most_taken = 1099511627776

-- a reply with its line feed; nothing where a frame has none
abbrev pub line_of : Option (List ℕ) → List ℕ
line_of None = []
line_of (Some reply) = reply ++ 10 ∷ []

-- the reply to bytes that are no frame
abbrev pub parse_error : List ℕ
parse_error = codes "{\"error\":{\"code\":-32700,\"message\":\"Parse error\"},\"id\":null,\"jsonrpc\":\"2.0\"}"

-- a rest at the end is answered as a frame that can't be read; white space has no rest
abbrev pub last_line : List ℕ → List ℕ
last_line [] = []
last_line (b ∷ rest) = parse_error ++ 10 ∷ []

-- the number of frames read, a rest being one
abbrev pub frames_read : List (List ℕ) → List ℕ → ℕ
frames_read frames [] = length frames
frames_read frames (b ∷ rest) = suc (length frames)

-- behind what was seen before, what is seen after: the pass has seen it, and this holds of it
pub record Sees (HasSeen : Seen → Type 0) (before : Seen) (Holds : Seen → Type 0) : Type 0 where
  pub after : Seen
  pub seen : HasSeen after
  pub grows : SeenGrows before after
  pub holds : Holds after

-- whatever was seen before, over any opening, there is what is seen after, of which this holds
abbrev pub ForEachSeen : (Opening → Seen → Type 0) → (Opening → Seen → Type 0) → (Opening → Seen → Seen → Type 0) → Type 0
ForEachSeen HadSeen HasSeen Holds = (o : Opening) → (before : Seen) → HadSeen o before → Sees (HasSeen o) before (Holds o before)

-- the frames are answered one after another, from what is seen before to what is seen after; these lines reply
pub data Answered (Answers : Seen → List ℕ → Option (List ℕ) → Seen → Type 0) : Seen → List (List ℕ) → List ℕ → Seen → Type 0 where
  none : (seen : Seen) → Answered Answers seen [] [] seen
  next : (before between after : Seen) (frame : List ℕ) (reply : Option (List ℕ)) (frames : List (List ℕ)) (lines : List ℕ) →
      Answers before frame reply between → Answered Answers between frames lines after → Answered Answers before (frame ∷ frames) (line_of reply ++ lines) after

-- of the frames that come next at most the first was begun
pub data Begun (Begins : Seen → List ℕ → Seen → Type 0) : Seen → List (List ℕ) → Seen → Type 0 where
  not_begun : (seen : Seen) (frames : List (List ℕ)) → Begun Begins seen frames seen
  begun : (before after : Seen) (frame : List ℕ) (frames : List (List ℕ)) → Begins before frame after → Begun Begins before (frame ∷ frames) after

-- some first frames were answered and the next at most begun, and a front of the replies was written
pub record BrokenOff (Answers : Seen → List ℕ → Option (List ℕ) → Seen → Type 0) (Begins : Seen → List ℕ → Seen → Type 0)
    (before : Seen) (frames : List (List ℕ)) (written : List ℕ) (after : Seen) : Type 0 where
  pub done : List (List ℕ)
  pub more : List (List ℕ)
  pub are : frames ≡ done ++ more
  pub lines : List ℕ
  pub between : Seen
  pub answered : Answered Answers before done lines between
  pub begun : Begun Begins between more after
  pub count : ℕ
  pub front : written ≡ take count lines

-- what was taken of a stream, the frames that it holds, its rest, and the replies
pub record Conversation (Answers : Seen → List ℕ → Option (List ℕ) → Seen → Type 0)
    (before : Seen) (left left_after : Option (List ℕ)) (after : Seen) : Type 0 where
  pub taken : List ℕ
  pub consumed : Consumes left left_after taken
  pub frames : List (List ℕ)
  pub rest : List ℕ
  pub is_full : Bool
  pub cut : Cuts most_frame taken frames rest is_full
  pub lines : List ℕ
  pub answered : Answered Answers before frames lines after

-- ---- how a connection ends

-- at the source's end, with no bracketed frame open; so many frames were read
pub record HasEnded (Answers : Seen → List ℕ → Option (List ℕ) → Seen → Type 0)
    (before : Seen) (left left_after held held_after : Option (List ℕ)) (after : Seen) (number : ℕ) : Type 0 where
  pub talk : Conversation Answers before left left_after after
  pub at_end : IsAtEnd left_after
  pub room : talk.is_full ≡ false
  pub no_bracket : begins_bracketed talk.rest ≡ false
  pub put : Appends held held_after (talk.lines ++ last_line talk.rest)
  pub count : number ≡ frames_read talk.frames talk.rest

-- at the source's end, within a bracketed frame
pub record IsTruncated (Answers : Seen → List ℕ → Option (List ℕ) → Seen → Type 0)
    (before : Seen) (left left_after held held_after : Option (List ℕ)) (after : Seen) : Type 0 where
  pub talk : Conversation Answers before left left_after after
  pub at_end : IsAtEnd left_after
  pub room : talk.is_full ≡ false
  pub bracket : begins_bracketed talk.rest ≡ true
  pub put : Appends held held_after (talk.lines ++ last_line talk.rest)

-- at a frame that isn't ended after as many bytes as it may have
pub record IsTooLong (Answers : Seen → List ℕ → Option (List ℕ) → Seen → Type 0)
    (before : Seen) (left left_after held held_after : Option (List ℕ)) (after : Seen) : Type 0 where
  pub talk : Conversation Answers before left left_after after
  pub full : talk.is_full ≡ true
  pub put : Appends held held_after (talk.lines ++ last_line talk.rest)

-- after as many bytes as are taken; the rest isn't answered
pub record IsSpent (Answers : Seen → List ℕ → Option (List ℕ) → Seen → Type 0)
    (before : Seen) (left left_after held held_after : Option (List ℕ)) (after : Seen) : Type 0 where
  pub talk : Conversation Answers before left left_after after
  pub room : talk.is_full ≡ false
  pub spent : length talk.taken ≡ most_taken
  pub put : Appends held held_after talk.lines

-- before its end: what was taken begins with bytes whose frames were answered up to where the connection broke off, or
-- all frames were answered, and of the last line a front was written
pub data IsBroken (Answers : Seen → List ℕ → Option (List ℕ) → Seen → Type 0) (Begins : Seen → List ℕ → Seen → Type 0)
    (before : Seen) (left left_after held held_after : Option (List ℕ)) (after : Seen) : Type 0 where
  among : (taken unread : List ℕ) (frames : List (List ℕ)) (rest written : List ℕ) (is_full : Bool) → Consumes left left_after (taken ++ unread) →
      Cuts most_frame taken frames rest is_full → BrokenOff Answers Begins before frames written after → Appends held held_after written →
      IsBroken Answers Begins before left left_after held held_after after
  at_last : (talk : Conversation Answers before left left_after after) (count : ℕ) → Appends held held_after (talk.lines ++ take count (last_line talk.rest)) →
      IsBroken Answers Begins before left left_after held held_after after

-- what each end of a connection says
pub data IsServed (Answers : Seen → List ℕ → Option (List ℕ) → Seen → Type 0) (Begins : Seen → List ℕ → Seen → Type 0)
    (before : Seen) (left left_after held held_after : Option (List ℕ)) (after : Seen) : Served → Type 0 where
  ended : (number : ℕ) → HasEnded Answers before left left_after held held_after after number → IsServed Answers Begins before left left_after held held_after after (served.Ended number)
  truncated : IsTruncated Answers before left left_after held held_after after → IsServed Answers Begins before left left_after held held_after after served.Truncated
  too_long : IsTooLong Answers before left left_after held held_after after → IsServed Answers Begins before left left_after held held_after after served.TooLong
  spent : IsSpent Answers before left left_after held held_after after → IsServed Answers Begins before left left_after held held_after after served.Spent
  not_read : IsBroken Answers Begins before left left_after held held_after after → IsServed Answers Begins before left left_after held held_after after served.ReadFault
  not_written : IsBroken Answers Begins before left left_after held held_after after → IsServed Answers Begins before left left_after held held_after after served.WriteFault
  out_of_memory : IsBroken Answers Begins before left left_after held held_after after → IsServed Answers Begins before left left_after held held_after after served.Memory
