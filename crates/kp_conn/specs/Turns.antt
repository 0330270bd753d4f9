-- What one piece of a stream does: the frames that it ends, answered.
use Rattle.std.specs.Prelude.{◌≡◌, ℕ, suc, List, [], ◌∷◌, ◌++◌, length, take, Option, if◌then◌else◌}
use Rattle.std.specs.Io.KnownBytes.{Appends}
use Rattle.kp_frames.specs.Frames.{begins_bracketed}
use Rattle.kp_frames.specs.Held.{Cutting, HasCut}
use Rattle.kp_book.specs.Books.{Seen}
use Rattle.kp_conn.specs.declared.served.Served.{Served}
use Rattle.kp_conn.specs.declared.served.Served.TheVariants as served
use Rattle.kp_conn.specs.Conversations.{Answered, BrokenOff, Conversation, parse_error}

-- behind whatever was cut the cutter ends these frames of the piece
abbrev pub Ends : Cutting → Cutting → List ℕ → List (List ℕ) → Type 0
Ends c d piece ended = (bytes : List ℕ) → (frames : List (List ℕ)) → HasCut c bytes frames → HasCut d (bytes ++ piece) (frames ++ ended)

-- behind whatever was cut the cutter ends so many frames of the piece
pub record EndsMany (c d : Cutting) (piece : List ℕ) (count : ℕ) : Type 0 where
  pub ended : List (List ℕ)
  pub ends : Ends c d piece ended
  pub number : count ≡ length ended

-- what the cutter has cut: so many bytes into so many frames
pub record HasCounted (c : Cutting) (taken frames : ℕ) : Type 0 where
  pub bytes : List ℕ
  pub ended : List (List ℕ)
  pub cut : HasCut c bytes ended
  pub taken_are : taken ≡ length bytes
  pub frames_are : frames ≡ length ended

-- these frames were answered, and their replies written
pub record AreAnswered (Answers : Seen → List ℕ → Option (List ℕ) → Seen → Type 0)
    (before : Seen) (frames : List (List ℕ)) (held held_after : Option (List ℕ)) (after : Seen) : Type 0 where
  pub lines : List ℕ
  pub answered : Answered Answers before frames lines after
  pub put : Appends held held_after lines

-- answering these frames broke off
pub record BreakOff (Answers : Seen → List ℕ → Option (List ℕ) → Seen → Type 0) (Begins : Seen → List ℕ → Seen → Type 0)
    (before : Seen) (frames : List (List ℕ)) (held held_after : Option (List ℕ)) (after : Seen) : Type 0 where
  pub written : List ℕ
  pub put : Appends held held_after written
  pub broken : BrokenOff Answers Begins before frames written after

-- the piece ended so many frames, which were answered
pub record IsTurn (Answers : Seen → List ℕ → Option (List ℕ) → Seen → Type 0)
    (before : Seen) (c d : Cutting) (piece : List ℕ) (held held_after : Option (List ℕ)) (after : Seen) (count : ℕ) : Type 0 where
  pub ended : List (List ℕ)
  pub ends : Ends c d piece ended
  pub number : count ≡ length ended
  pub answered : AreAnswered Answers before ended held held_after after

-- the turn broke off: before the piece was cut, or among the frames that it ends
pub data BrokenTurn (Answers : Seen → List ℕ → Option (List ℕ) → Seen → Type 0) (Begins : Seen → List ℕ → Seen → Type 0)
    (before : Seen) (c d : Cutting) (piece : List ℕ) (held held_after : Option (List ℕ)) (after : Seen) : Type 0 where
  uncut : after ≡ before → Appends held held_after [] → BrokenTurn Answers Begins before c d piece held held_after after
  unanswered : (ended : List (List ℕ)) → Ends c d piece ended → BreakOff Answers Begins before ended held held_after after → BrokenTurn Answers Begins before c d piece held held_after after

-- a connection so far: all was answered, the cutter holds the rest, and so many bytes were taken and frames read
pub record Talks (Answers : Seen → List ℕ → Option (List ℕ) → Seen → Type 0)
    (before : Seen) (left left_after held held_after : Option (List ℕ)) (after : Seen) (c : Cutting) (taken frames : ℕ) : Type 0 where
  pub talk : Conversation Answers before left left_after after
  pub rest : talk.rest ≡ c.rest
  pub full : talk.is_full ≡ c.is_full
  pub number : frames ≡ length talk.frames
  pub bytes : taken ≡ length talk.taken
  pub put : Appends held held_after talk.lines

-- the line of what can't be read was written behind, and that is the end; or a front of it, and that is a fault
pub data IsLastPut (end : Served) (held held_after : Option (List ℕ)) : Served → Type 0 where
  last_put : Appends held held_after (parse_error ++ 10 ∷ []) → IsLastPut end held held_after end
  not_put : (count : ℕ) → Appends held held_after (take count (parse_error ++ 10 ∷ [])) → IsLastPut end held held_after served.WriteFault
  no_memory : (count : ℕ) → Appends held held_after (take count (parse_error ++ 10 ∷ [])) → IsLastPut end held held_after served.Memory

-- the end behind a rest, where so many frames were read before it
abbrev pub end_behind : List ℕ → ℕ → Served
end_behind rest frames = if begins_bracketed rest then served.Truncated else served.Ended (suc frames)

-- how the rest at the source's end is told
pub data IsRestTold (rest : List ℕ) (frames : ℕ) (held held_after : Option (List ℕ)) : Served → Type 0 where
  no_rest : rest ≡ [] → Appends held held_after [] → IsRestTold rest frames held held_after (served.Ended frames)
  rest_told : (end : Served) → ¬ (rest ≡ []) → IsLastPut (end_behind rest frames) held held_after end → IsRestTold rest frames held held_after end
