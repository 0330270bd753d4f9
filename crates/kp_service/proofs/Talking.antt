-- What a conversation does to what is seen.
use Rattle.std.proofs.Common.{ℕ, List, Option}
use Rattle.kp_book.specs.Books.{Opening, Seen, SeenGrows}
use Rattle.kp_book.proofs.BookLemmas.{seen_grows_none, seen_grows_on}
use Rattle.kp_conn.specs.Conversations.{Answered, none, next, Begun, not_begun, begun, BrokenOff, IsBroken, among, at_last, IsServed, ended, truncated, too_long, spent, not_read, not_written, out_of_memory}
use Rattle.kp_conn.specs.declared.served.Served.{Served}
use Rattle.kp_service.specs.Answers.{IsAnswer, IsBegun}
use Rattle.kp_service.proofs.Growing.{answer_grows, begun_grows}

pub frames_grow : (o : Opening) (before after : Seen) (frames : List (List ℕ)) (lines : List ℕ) → Answered (IsAnswer o) before frames lines after → SeenGrows before after
frames_grow o before after frames lines (none seen) = seen_grows_none before
frames_grow o before after frames lines (next b between a frame reply more ls now later) = seen_grows_on before between after (answer_grows o before between frame reply now) (frames_grow o between after more ls later)

pub begun_frames_grow : (o : Opening) (before after : Seen) (frames : List (List ℕ)) → Begun (IsBegun o) before frames after → SeenGrows before after
begun_frames_grow o before after frames (not_begun seen fs) = seen_grows_none before
begun_frames_grow o before after frames (begun b a frame fs now) = begun_grows o before after frame now

broken_grows : (o : Opening) (before after : Seen) (frames : List (List ℕ)) (written : List ℕ) → BrokenOff (IsAnswer o) (IsBegun o) before frames written after → SeenGrows before after
broken_grows o before after frames written b = seen_grows_on before b.between after (frames_grow o before b.between b.done b.lines b.answered) (begun_frames_grow o b.between after b.more b.begun)

cut_grows : (o : Opening) (before after : Seen) (left left_after held held_after : Option (List ℕ)) → IsBroken (IsAnswer o) (IsBegun o) before left left_after held held_after after → SeenGrows before after
cut_grows o before after left left_after held held_after (among taken unread frames rest written full consumed cut off put) = broken_grows o before after frames written off
cut_grows o before after left left_after held held_after (at_last talk count put) = frames_grow o before after talk.frames talk.lines talk.answered

pub connection_grows : (o : Opening) (before after : Seen) (left left_after held held_after : Option (List ℕ)) (end : Served) → IsServed (IsAnswer o) (IsBegun o) before left left_after held held_after after end → SeenGrows before after
connection_grows o before after left left_after held held_after end (ended number h) = frames_grow o before after h.talk.frames h.talk.lines h.talk.answered
connection_grows o before after left left_after held held_after end (truncated h) = frames_grow o before after h.talk.frames h.talk.lines h.talk.answered
connection_grows o before after left left_after held held_after end (too_long h) = frames_grow o before after h.talk.frames h.talk.lines h.talk.answered
connection_grows o before after left left_after held held_after end (spent h) = frames_grow o before after h.talk.frames h.talk.lines h.talk.answered
connection_grows o before after left left_after held held_after end (not_read b) = cut_grows o before after left left_after held held_after b
connection_grows o before after left left_after held held_after end (not_written b) = cut_grows o before after left left_after held held_after b
connection_grows o before after left left_after held held_after end (out_of_memory b) = cut_grows o before after left left_after held held_after b
