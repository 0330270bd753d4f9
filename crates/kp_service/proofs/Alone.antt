-- Where all entries of a book are a connection's own, each of its calls was answered at the book that those before it made: a
-- book never grows by less than the own entries do, so an entry of another's would leave one more entry than own ones.
use Rattle.std.proofs.Common.{◌≡◌, ◌∙◌, sym, ap, subst, arith, ℕ, suc, ◌+◌, ◌≤◌, List, [], ◌∷◌, ◌++◌, length, length-append, append-nil, Option, Some, None}
use Rattle.serde_json.specs.Data.{Data}
use Rattle.kp_requests.specs.Requests.{Call, batch}
use Rattle.kp_requests.specs.Frames.{Asks}
use Rattle.kp_book.specs.Books.{Opening, Registration, Seen, Grows, at_book, with_own}
use Rattle.kp_conn.specs.Conversations.{Answered, Begun, not_begun, begun, BrokenOff, Conversation, IsBroken, among, at_last, IsServed, ended, truncated, too_long, spent, not_read, not_written, out_of_memory}
use Rattle.kp_conn.specs.Conversations as talk
use Rattle.kp_conn.specs.declared.served.Served.{Served}
use Rattle.kp_additions.specs.Served.{nothing_seen}
use Rattle.kp_service.specs.Answers.{IsReplyTo, AddsNothing, Adds, IsMember, told, added, silent, added_silently, AreMembers, none, next, IsAnswer, refusal, alone, together, IsFront, IsBegun, begun_together}
use Rattle.kp_service.specs.Answers as answers
use Rattle.kp_service.specs.Alone.{AreAllOwn, IsMemberAlone, told_alone, added_alone, silent_alone, added_silently_alone, AreMembersAlone, none_alone, next_alone, IsAnswerAlone, refusal_alone, single_alone, together_alone, IsBegunAlone, not_begun_alone, begun_alone}
use Rattle.kp_service.proofs.Counted.{no_shorter}

-- ---- entries and own ones

-- no more own ones than entries, or no fewer
abbrev HasFewOwn : Seen → Type 0
HasFewOwn s = length s.own ≤ length s.book

abbrev HasManyOwn : Seen → Type 0
HasManyOwn s = length s.book ≤ length s.own

-- the book grows by no less than the own entries
abbrev Keeps : Seen → Seen → Type 0
Keeps b a = length b.book + length a.own ≤ length a.book + length b.own

longer : (a b : List Registration) → Grows a b → length a ≤ length b
longer a b g = let e = ap length g.1 ∙ length-append a g.0 in omega (arith, e)

-- a book that grew by nothing
stays : (a b : List Registration) → Grows a b → length b ≤ length a → b ≡ a
stays a b g h = g.1 ∙ by_more g.0 (ap length g.1 ∙ length-append a g.0)
  where
    by_more : (more : List Registration) → length b ≡ length a + length more → a ++ more ≡ a
    by_more [] e = append-nil a
    by_more (r ∷ rs) e = absurd (omega (arith, e, h))

keeps_on : (b m a : Seen) → Keeps b m → Keeps m a → Keeps b a
keeps_on b m a p q = omega (arith, p, q)

many_before : (b a : Seen) → Keeps b a → HasManyOwn a → HasManyOwn b
many_before b a k h = omega (arith, k, h)

few_after : (b a : Seen) → Keeps b a → HasFewOwn b → HasFewOwn a
few_after b a k h = omega (arith, k, h)

at_keeps : (at : List Registration) (b : Seen) → Grows b.book at → Keeps b (at_book at b)
at_keeps at b g = let l = longer b.book at g in omega (arith, l)

own_keeps : (between : List Registration) (r : Registration) (b : Seen) → Grows b.book between → Keeps b (with_own between r b.own)
own_keeps between r b g =
    let l = longer b.book between g in
    let e = length-append between (r ∷ []) in
    let f = length-append b.own (suc (length between) ∷ []) in
    omega (arith, l, e, f)

-- ---- one call

member_keeps : (o : Opening) (b a : Seen) (call : Call) (reply : Option Data) → IsMember o b call reply a → Keeps b a
member_keeps o b a call reply (told at id d g e p) = at_keeps at b g
member_keeps o b a call reply (added between id r g e p) = own_keeps between r b g
member_keeps o b a call reply (silent at g e p) = at_keeps at b g
member_keeps o b a call reply (added_silently between r g e p) = own_keeps between r b g

at_same : (at : List Registration) (b : Seen) → Grows b.book at → HasFewOwn b → HasManyOwn (at_book at b) → at ≡ b.book
at_same at b g f m = stays b.book at g (omega (arith, f, m))

own_same : (between : List Registration) (r : Registration) (b : Seen) → Grows b.book between → HasFewOwn b → HasManyOwn (with_own between r b.own) → between ≡ b.book
own_same between r b g f m =
    let e = length-append between (r ∷ []) in
    let k = length-append b.own (suc (length between) ∷ []) in
    stays b.book between g (omega (arith, f, m, e, k))

member_alone : (o : Opening) (b a : Seen) (call : Call) (reply : Option Data) → HasFewOwn b → HasManyOwn a → IsMember o b call reply a → IsMemberAlone o b call reply a
member_alone o b a call reply f m (told at id d g e p) =
    let same = at_same at b g f m in
    subst (λ x. IsMemberAlone o b call (Some d) (at_book x b)) (sym same) (told_alone id d e (subst (λ x. IsReplyTo o x id call.asked d) same p))
member_alone o b a call reply f m (added between id r g e p) =
    let same = own_same between r b g f m in
    subst (λ x. IsMemberAlone o b call reply (with_own x r b.own)) (sym same) (added_alone id r e (subst (λ x. Adds o x call.asked r) same p))
member_alone o b a call reply f m (silent at g e p) =
    let same = at_same at b g f m in
    subst (λ x. IsMemberAlone o b call None (at_book x b)) (sym same) (silent_alone e (subst (λ x. AddsNothing o x call.asked) same p))
member_alone o b a call reply f m (added_silently between r g e p) =
    let same = own_same between r b g f m in
    subst (λ x. IsMemberAlone o b call None (with_own x r b.own)) (sym same) (added_silently_alone r e (subst (λ x. Adds o x call.asked r) same p))

-- ---- calls in order

members_keep : (o : Opening) (b a : Seen) (calls : List Call) (replies : List Data) → AreMembers o b calls replies a → Keeps b a
members_keep o b a calls replies (none seen) = omega arith
members_keep o b a calls replies (next b2 m a2 call reply more rs now later) = keeps_on b m a (member_keeps o b m call reply now) (members_keep o m a more rs later)

members_alone : (o : Opening) (b a : Seen) (calls : List Call) (replies : List Data) → HasFewOwn b → HasManyOwn a → AreMembers o b calls replies a → AreMembersAlone o b calls replies a
members_alone o b a calls replies f m (none seen) = none_alone b
members_alone o b a calls replies f m (next b2 c a2 call reply more rs now later) =
    next_alone b c a call reply more rs (member_alone o b c call reply f (many_before c a (members_keep o c a more rs later) m) now)
    (members_alone o c a more rs (few_after b c (member_keeps o b c call reply now) f) m later)

-- ---- frames

answer_keeps : (o : Opening) (b a : Seen) (bytes : List ℕ) (reply : Option (List ℕ)) → IsAnswer o b bytes reply a → Keeps b a
answer_keeps o b a bytes reply (refusal e asks) = omega arith
answer_keeps o b a bytes reply (alone call d x asks now) = member_keeps o b a call d now
answer_keeps o b a bytes reply (together calls ds x asks now) = members_keep o b a calls ds now

answer_alone : (o : Opening) (b a : Seen) (bytes : List ℕ) (reply : Option (List ℕ)) → HasFewOwn b → HasManyOwn a → IsAnswer o b bytes reply a → IsAnswerAlone o b bytes reply a
answer_alone o b a bytes reply f m (refusal e asks) = refusal_alone e asks
answer_alone o b a bytes reply f m (alone call d x asks now) = single_alone call d a asks (member_alone o b a call d f m now)
answer_alone o b a bytes reply f m (together calls ds x asks now) = together_alone calls ds a asks (members_alone o b a calls ds f m now)

front_keeps : (o : Opening) (b a : Seen) (calls : List Call) → IsFront o b calls a → Keeps b a
front_keeps o b a calls t = subst (Keeps b) (sym t.looked) (keeps_on b t.between (at_book t.at t.between) (members_keep o b t.between t.done t.replies t.answered) (at_keeps t.at t.between t.grows))

begun_keeps : (o : Opening) (b a : Seen) (bytes : List ℕ) → IsBegun o b bytes a → Keeps b a
begun_keeps o b a bytes (answers.not_begun at g) = at_keeps at b g
begun_keeps o b a bytes (begun_together calls x asks t) = front_keeps o b a calls t

front_alone : (o : Opening) (b a : Seen) (bytes : List ℕ) (calls : List Call) → HasFewOwn b → HasManyOwn a → Asks bytes (batch calls) → IsFront o b calls a → IsBegunAlone o b bytes a
front_alone o b a bytes calls f m asks t =
    let grown : HasManyOwn (at_book t.at t.between) = subst HasManyOwn t.looked m in
    let grew = at_keeps t.at t.between t.grows in
    let few = few_after b t.between (members_keep o b t.between t.done t.replies t.answered) f in
    let same = at_same t.at t.between t.grows few grown in
    let here : a ≡ t.between = t.looked ∙ ap (λ x. at_book x t.between) same in
    subst (IsBegunAlone o b bytes) (sym here)
    (begun_alone t.done t.more t.replies t.between (subst (λ x. Asks bytes (batch x)) t.are asks)
    (members_alone o b t.between t.done t.replies f (many_before t.between (at_book t.at t.between) grew grown) t.answered))

frame_begun_alone : (o : Opening) (b a : Seen) (bytes : List ℕ) → HasFewOwn b → HasManyOwn a → IsBegun o b bytes a → IsBegunAlone o b bytes a
frame_begun_alone o b a bytes f m (answers.not_begun at g) = subst (λ x. IsBegunAlone o b bytes (at_book x b)) (sym (at_same at b g f m)) not_begun_alone
frame_begun_alone o b a bytes f m (begun_together calls x asks t) = front_alone o b a bytes calls f m asks t

-- ---- connections

module _ (o : Opening) where
  frames_keep : (b a : Seen) (frames : List (List ℕ)) (lines : List ℕ) → Answered (IsAnswer o) b frames lines a → Keeps b a
  frames_keep b a frames lines (talk.none seen) = omega arith
  frames_keep b a frames lines (talk.next b2 m a2 frame reply more ls now later) = keeps_on b m a (answer_keeps o b m frame reply now) (frames_keep m a more ls later)

  frames_alone : (b a : Seen) (frames : List (List ℕ)) (lines : List ℕ) → HasFewOwn b → HasManyOwn a → Answered (IsAnswer o) b frames lines a → Answered (IsAnswerAlone o) b frames lines a
  frames_alone b a frames lines f m (talk.none seen) = talk.none b
  frames_alone b a frames lines f m (talk.next b2 c a2 frame reply more ls now later) =
      talk.next b c a frame reply more ls (answer_alone o b c frame reply f (many_before c a (frames_keep c a more ls later) m) now)
      (frames_alone c a more ls (few_after b c (answer_keeps o b c frame reply now) f) m later)

  next_keeps : (b a : Seen) (frames : List (List ℕ)) → Begun (IsBegun o) b frames a → Keeps b a
  next_keeps b a frames (not_begun seen fs) = omega arith
  next_keeps b a frames (begun b2 a2 frame fs now) = begun_keeps o b a frame now

  next_begun : (b a : Seen) (frames : List (List ℕ)) → HasFewOwn b → HasManyOwn a → Begun (IsBegun o) b frames a → Begun (IsBegunAlone o) b frames a
  next_begun b a frames f m (not_begun seen fs) = not_begun b frames
  next_begun b a frames f m (begun b2 a2 frame fs now) = begun b a frame fs (frame_begun_alone o b a frame f m now)

  off_alone : (b a : Seen) (frames : List (List ℕ)) (written : List ℕ) → HasFewOwn b → HasManyOwn a → BrokenOff (IsAnswer o) (IsBegun o) b frames written a →
      BrokenOff (IsAnswerAlone o) (IsBegunAlone o) b frames written a
  off_alone b a frames written f m t = record {
    done = t.done;
    more = t.more;
    are = t.are;
    lines = t.lines;
    between = t.between;
    answered = frames_alone b t.between t.done t.lines f (many_before t.between a (next_keeps t.between a t.more t.begun) m) t.answered;
    begun = next_begun t.between a t.more (few_after b t.between (frames_keep b t.between t.done t.lines t.answered) f) m t.begun;
    count = t.count;
    front = t.front;
  }

  abbrev talk_alone : (b a : Seen) (left left_after : Option (List ℕ)) → HasFewOwn b → HasManyOwn a → Conversation (IsAnswer o) b left left_after a → Conversation (IsAnswerAlone o) b left left_after a
  talk_alone b a left left_after f m t = record {
    taken = t.taken;
    consumed = t.consumed;
    frames = t.frames;
    rest = t.rest;
    is_full = t.is_full;
    cut = t.cut;
    lines = t.lines;
    answered = frames_alone b a t.frames t.lines f m t.answered;
  }

  cut_alone : (b a : Seen) (left left_after held held_after : Option (List ℕ)) → HasFewOwn b → HasManyOwn a → IsBroken (IsAnswer o) (IsBegun o) b left left_after held held_after a →
      IsBroken (IsAnswerAlone o) (IsBegunAlone o) b left left_after held held_after a
  cut_alone b a left left_after held held_after f m (among taken unread frames rest written full consumed cut off put) =
      among taken unread frames rest written full consumed cut (off_alone b a frames written f m off) put
  cut_alone b a left left_after held held_after f m (at_last t count put) = at_last (talk_alone b a left left_after f m t) count put

  served_alone : (b a : Seen) (left left_after held held_after : Option (List ℕ)) (end : Served) → HasFewOwn b → HasManyOwn a → IsServed (IsAnswer o) (IsBegun o) b left left_after held held_after a end →
      IsServed (IsAnswerAlone o) (IsBegunAlone o) b left left_after held held_after a end
  served_alone b a left left_after held held_after end f m (ended number h) =
      ended number (record { talk = talk_alone b a left left_after f m h.talk; at_end = h.at_end; room = h.room; no_bracket = h.no_bracket; put = h.put; count = h.count })
  served_alone b a left left_after held held_after end f m (truncated h) =
      truncated (record { talk = talk_alone b a left left_after f m h.talk; at_end = h.at_end; room = h.room; bracket = h.bracket; put = h.put })
  served_alone b a left left_after held held_after end f m (too_long h) = too_long (record { talk = talk_alone b a left left_after f m h.talk; full = h.full; put = h.put })
  served_alone b a left left_after held held_after end f m (spent h) = spent (record { talk = talk_alone b a left left_after f m h.talk; room = h.room; spent = h.spent; put = h.put })
  served_alone b a left left_after held held_after end f m (not_read t) = not_read (cut_alone b a left left_after held held_after f m t)
  served_alone b a left left_after held held_after end f m (not_written t) = not_written (cut_alone b a left left_after held held_after f m t)
  served_alone b a left left_after held held_after end f m (out_of_memory t) = out_of_memory (cut_alone b a left left_after held held_after f m t)

-- ---- from an empty book

many : (s : Seen) → AreAllOwn s → HasManyOwn s
many s each = no_shorter (length s.book) s.own each

none_own : HasFewOwn nothing_seen
none_own = omega arith

pub connection_alone : (o : Opening) (after : Seen) (left left_after held held_after : Option (List ℕ)) (end : Served) → AreAllOwn after →
    IsServed (IsAnswer o) (IsBegun o) nothing_seen left left_after held held_after after end → IsServed (IsAnswerAlone o) (IsBegunAlone o) nothing_seen left left_after held held_after after end
connection_alone o after left left_after held held_after end each t = served_alone o nothing_seen after left left_after held held_after end none_own (many after each) t

pub broken_alone : (o : Opening) (after : Seen) (left left_after held held_after : Option (List ℕ)) → AreAllOwn after →
    IsBroken (IsAnswer o) (IsBegun o) nothing_seen left left_after held held_after after → IsBroken (IsAnswerAlone o) (IsBegunAlone o) nothing_seen left left_after held held_after after
broken_alone o after left left_after held held_after each t = cut_alone o nothing_seen after left left_after held held_after none_own (many after each) t
