-- How a connection ends.
use Rattle.std.proofs.Common.{rules, ◌≡◌, refl, sym, ap, subst, ◌∙◌, arith, ℕ, suc, ◌+◌, ◌<◌, ◌≤◌, ◌==◌, true, false, true≢false, if◌then◌else◌, Bool, List, [], ◌∷◌, ◌++◌, length, take, Option, append-nil, length-append}
use Rattle.std.proofs.Math.Seq.{take-length}
use Rattle.std.proofs.lemmas.List.{length-take-le}
use Rattle.std.proofs.KnownBytes.{Appends-trans, Consumes-nil, Consumes-trans, Consumes-kept}
use Rattle.std.specs.Io.KnownBytes.{Appends, Consumes, Keeps, IsAtEnd}
use Rattle.kp_io.specs.Outside.{CountsFault}
use Rattle.kp_io.specs.declared.fault.OutsideFault.{OutsideFault}
use Rattle.kp_io.specs.declared.fault.OutsideFault.TheVariants as outside
use Rattle.kp_frames.specs.Frames.{begins_bracketed, most_frame, Cuts, white, bracketed, malformed, unended, full}
use Rattle.kp_frames.specs.Held.{Cutting, HasCut}
use Rattle.kp_book.specs.Books.{Seen}
use Rattle.kp_conn.specs.Conversations.{Sees, most_taken, frames_read, last_line, parse_error, Answered, none, not_begun, BrokenOff, Conversation, HasEnded, IsBroken, among, at_last, IsServed, ended, truncated, too_long, spent, not_read, not_written, out_of_memory}
use Rattle.kp_conn.specs.Turns.{EndsMany, HasCounted, IsTurn, BrokenTurn, uncut, unanswered, Talks, IsLastPut, last_put, not_put, no_memory, end_behind, IsRestTold, no_rest, rest_told}
use Rattle.kp_conn.specs.declared.served.Served.{Served}
use Rattle.kp_conn.specs.declared.served.Served.TheVariants as served
use Rattle.kp_conn.proofs.Conversing.{answered_on, broken_behind, sees_behind}

pub told_broken : (end : Served) (h i : Option (List ℕ)) (fault : OutsideFault) (result : Served) →
    (n : ℕ) × Appends h i (take n (parse_error ++ 10 ∷ [])) → (fault ≡ outside.Failed → result ≡ served.WriteFault) → (fault ≡ outside.Memory → result ≡ served.Memory) → IsLastPut end h i result
told_broken end h i outside.Failed result put failed memory = subst (IsLastPut end h i) (sym (failed refl)) (not_put put.0 put.1)
told_broken end h i outside.Memory result put failed memory = subst (IsLastPut end h i) (sym (memory refl)) (no_memory put.0 put.1)

pub nothing_left : (rest : List ℕ) → (length rest == 0) ≡ true → rest ≡ []
nothing_left [] e = refl
nothing_left (b ∷ bs) e = absurd (some (search (rules, e)))
  where
    some : suc (length bs) ≡ 0 → ⊥
    some z = omega (arith, z)

pub something_left : (rest : List ℕ) → (length rest == 0) ≡ false → ¬ (rest ≡ [])
something_left rest h e = true≢false (sym (ap (λ r. length r == 0) e) ∙ h)

pub full_length : (a b : ℕ) → true ≡ (a == b) → a ≡ b
full_length a b e = search (rules, e)

-- frames are no more than bytes
pub frames_within : (limit : ℕ) (bytes : List ℕ) (fs : List (List ℕ)) (r : List ℕ) (f : Bool) → Cuts limit bytes fs r f → length fs ≤ length bytes
frames_within limit bytes fs r f (white b bs gs s g w c) = omega (arith, frames_within limit bs gs s g c)
frames_within limit bytes fs r f (bracketed [] bs gs s g i l c) = absurd (true≢false (sym i.begins))
frames_within limit bytes fs r f (bracketed (b ∷ p) bs gs s g i l c) = omega (arith, frames_within limit bs gs s g c, length-append p bs)
frames_within limit bytes fs r f (malformed p bs gs s g i l c) = omega (arith, frames_within limit bs gs s g c, length-append p (10 ∷ bs))
frames_within limit bytes fs r f (unended s u l) = omega arith
frames_within limit bytes fs r f (full s m u l) = omega arith

-- so many bytes and frames were cut

pub none_counted : (c : Cutting) → HasCut c [] [] → HasCounted c 0 0
none_counted c cut = record { bytes = []; ended = []; cut = cut; taken_are = refl; frames_are = refl }

pub more_counted : (c d : Cutting) (taken frames count k : ℕ) (piece : List ℕ) → k ≤ length piece → HasCounted c taken frames → EndsMany c d (take k piece) count → HasCounted d (taken + k) (frames + count)
more_counted c d taken frames count k piece short h e = record {
  bytes = h.bytes ++ take k piece;
  ended = h.ended ++ e.ended;
  cut = e.ends h.bytes h.ended h.cut;
  taken_are = omega (arith, h.taken_are, length-append h.bytes (take k piece), length-take-le k piece short);
  frames_are = omega (arith, h.frames_are, e.number, length-append h.ended e.ended);
}

pub counted_within : (c : Cutting) (taken frames : ℕ) → HasCounted c taken frames → frames ≤ taken
counted_within c taken frames h = omega (arith, h.taken_are, h.frames_are, frames_within c.limit h.bytes h.ended c.rest c.is_full h.cut)

-- fewer bytes than the limit don't fill a rest
pub room_left : (limit : ℕ) (bytes : List ℕ) (fs : List (List ℕ)) (r : List ℕ) (f : Bool) → Cuts limit bytes fs r f → length bytes < limit → f ≡ false
room_left limit bytes fs r f (white b bs gs s g w c) l = room_left limit bs gs s g c (omega (arith, l))
room_left limit bytes fs r f (bracketed p bs gs s g i m c) l = room_left limit bs gs s g c (omega (arith, l, length-append p bs))
room_left limit bytes fs r f (malformed p bs gs s g i m c) l = room_left limit bs gs s g c (omega (arith, l, length-append p (10 ∷ bs)))
room_left limit bytes fs r f (unended s u m) l = refl
room_left limit bytes fs r f (full s m u e) l = absurd (omega (arith, l, e, length-append s m))

-- neither the end nor a fault of the sink is one of the source
pub not_read_last : (end : Served) (h i : Option (List ℕ)) (result : Served) → IsLastPut end h i result → ¬ (end ≡ served.ReadFault) → ¬ (result ≡ served.ReadFault)
not_read_last end h i result (last_put p) other e = other e
not_read_last end h i result (not_put n p) other e = cc e
not_read_last end h i result (no_memory n p) other e = cc e

pub not_read_rest : (rest : List ℕ) (frames : ℕ) (h i : Option (List ℕ)) (result : Served) → IsRestTold rest frames h i result → ¬ (result ≡ served.ReadFault)
not_read_rest rest frames h i result (no_rest none_left p) e = cc e
not_read_rest rest frames h i result (rest_told end some p) e = not_read_last (end_behind rest frames) h i result p (other (begins_bracketed rest)) e
  where
    other : (b : Bool) → ¬ ((if b then served.Truncated else served.Ended (suc frames)) ≡ served.ReadFault)
    other true e = cc e
    other false e = cc e

pub no_fault : (before after : ℕ) (failed : Type 0) → after ≡ before → ¬ failed → CountsFault before after failed
no_fault before after failed e never = record { never_falls = omega (arith, e); rose = λ f. absurd (never f); stays = λ _. e }

line_for : (rest : List ℕ) → ¬ (rest ≡ []) → last_line rest ≡ parse_error ++ 10 ∷ []
line_for [] some = absurd (some refl)
line_for (b ∷ rest) some = refl

one_more : (frames : List (List ℕ)) (rest : List ℕ) → ¬ (rest ≡ []) → frames_read frames rest ≡ suc (length frames)
one_more frames [] some = absurd (some refl)
one_more frames (b ∷ rest) some = refl

module _ (Answers : Seen → List ℕ → Option (List ℕ) → Seen → Type 0) (Begins : Seen → List ℕ → Seen → Type 0) where
  -- no byte was taken yet
  pub begins_talking : (seen : Seen) (l h : Option (List ℕ)) (c : Cutting) → c.limit ≡ most_frame → HasCut c [] [] → Appends h h [] → Talks Answers seen l l h h seen c 0 0
  begins_talking seen l h c e cut put = record {
    talk = record { taken = []; consumed = Consumes-nil l; frames = []; rest = c.rest; is_full = c.is_full; cut = subst (λ n. Cuts n [] [] c.rest c.is_full) e cut; lines = []; answered = none seen };
    rest = refl;
    full = refl;
    number = refl;
    bytes = refl;
    put = put;
  }

  cut_of : (before after : Seen) (l m h i : Option (List ℕ)) (c : Cutting) (taken frames : ℕ) → c.limit ≡ most_frame → (t : Talks Answers before l m h i after c taken frames) → HasCut c t.talk.taken t.talk.frames
  cut_of before after l m h i c taken frames e t =
      subst (λ n. Cuts n t.talk.taken t.talk.frames c.rest c.is_full) (sym e) (subst (λ r. Cuts most_frame t.talk.taken t.talk.frames r c.is_full) t.rest (subst (λ f. Cuts most_frame t.talk.taken t.talk.frames t.talk.rest f) t.full t.talk.cut))

  pub talks_on : (before between after : Seen) (l m n h i j : Option (List ℕ)) (c d : Cutting) (taken frames count : ℕ) (piece : List ℕ) →
      c.limit ≡ most_frame → d.limit ≡ most_frame → Talks Answers before l m h i between c taken frames → Consumes m n piece → IsTurn Answers between c d piece i j after count →
      Talks Answers before l n h j after d (taken + length piece) (frames + count)
  talks_on before between after l m n h i j c d taken frames count piece e g t consumed turn = record {
    talk = record {
      taken = t.talk.taken ++ piece;
      consumed = Consumes-trans l m n t.talk.taken piece t.talk.consumed consumed;
      frames = t.talk.frames ++ turn.ended;
      rest = d.rest;
      is_full = d.is_full;
      cut = subst (λ x. Cuts x (t.talk.taken ++ piece) (t.talk.frames ++ turn.ended) d.rest d.is_full) g (turn.ends t.talk.taken t.talk.frames (cut_of before between l m h i c taken frames e t));
      lines = t.talk.lines ++ turn.answered.lines;
      answered = answered_on Answers Begins before between after t.talk.frames turn.ended t.talk.lines turn.answered.lines t.talk.answered turn.answered.answered;
    };
    rest = refl;
    full = refl;
    number = omega (arith, t.number, turn.number, length-append t.talk.frames turn.ended);
    bytes = omega (arith, t.bytes, length-append t.talk.taken piece);
    put = Appends-trans h i j t.talk.lines turn.answered.lines t.put turn.answered.put;
  }

  -- a turn over the first bytes of a piece
  pub talks_turn : (before between after : Seen) (l m n h i j : Option (List ℕ)) (c d : Cutting) (taken frames count k : ℕ) (piece : List ℕ) → k ≤ length piece →
      c.limit ≡ most_frame → d.limit ≡ most_frame → Talks Answers before l m h i between c taken frames → Consumes m n (take k piece) → IsTurn Answers between c d (take k piece) i j after count →
      Talks Answers before l n h j after d (taken + k) (frames + count)
  talks_turn before between after l m n h i j c d taken frames count k piece short e g t consumed turn =
      subst (λ x. Talks Answers before l n h j after d (taken + x) (frames + count)) (length-take-le k piece short) (talks_on before between after l m n h i j c d taken frames count (take k piece) e g t consumed turn)

  all_done : (before after : Seen) (frames : List (List ℕ)) (lines : List ℕ) → Answered Answers before frames lines after → BrokenOff Answers Begins before frames lines after
  all_done before after frames lines p = record { done = frames; more = []; are = sym (append-nil frames); lines = lines; between = after; answered = p; begun = not_begun after []; count = length lines; front = sym (take-length lines) }

  pub read_broken : (before after : Seen) (l m n h i : Option (List ℕ)) (c : Cutting) (taken frames : ℕ) → Talks Answers before l m h i after c taken frames → Keeps m n →
      IsServed Answers Begins before l n h i after served.ReadFault
  read_broken before after l m n h i c taken frames t kept = not_read (among t.talk.taken [] t.talk.frames t.talk.rest t.talk.lines t.talk.is_full
      (subst (Consumes l n) (sym (append-nil t.talk.taken)) (Consumes-kept l m n t.talk.taken t.talk.consumed kept)) t.talk.cut (all_done before after t.talk.frames t.talk.lines t.talk.answered) t.put)

  pub turn_broken : (before between after : Seen) (l m n h i j : Option (List ℕ)) (c d : Cutting) (taken frames : ℕ) (piece : List ℕ) →
      c.limit ≡ most_frame → d.limit ≡ most_frame → Talks Answers before l m h i between c taken frames → Consumes m n piece → BrokenTurn Answers Begins between c d piece i j after →
      IsBroken Answers Begins before l n h j after
  turn_broken before between after l m n h i j c d taken frames piece e g t consumed (uncut same put) = among t.talk.taken piece t.talk.frames t.talk.rest t.talk.lines t.talk.is_full
      (Consumes-trans l m n t.talk.taken piece t.talk.consumed consumed) t.talk.cut
      (subst (λ a. BrokenOff Answers Begins before t.talk.frames t.talk.lines a) (sym same) (all_done before between t.talk.frames t.talk.lines t.talk.answered))
      (subst (Appends h j) (append-nil t.talk.lines) (Appends-trans h i j t.talk.lines [] t.put put))
  turn_broken before between after l m n h i j c d taken frames piece e g t consumed (unanswered news ends b) = among (t.talk.taken ++ piece) [] (t.talk.frames ++ news) d.rest (t.talk.lines ++ b.written) d.is_full
      (subst (Consumes l n) (sym (append-nil (t.talk.taken ++ piece))) (Consumes-trans l m n t.talk.taken piece t.talk.consumed consumed))
      (subst (λ x. Cuts x (t.talk.taken ++ piece) (t.talk.frames ++ news) d.rest d.is_full) g (ends t.talk.taken t.talk.frames (cut_of before between l m h i c taken frames e t)))
      (broken_behind Answers Begins before between after t.talk.frames news t.talk.lines b.written t.talk.answered b.broken)
      (Appends-trans h i j t.talk.lines b.written t.put b.put)

  pub broken_served : (before after : Seen) (l m h i : Option (List ℕ)) (fault : OutsideFault) (result : Served) → IsBroken Answers Begins before l m h i after →
      (fault ≡ outside.Failed → result ≡ served.WriteFault) → (fault ≡ outside.Memory → result ≡ served.Memory) → IsServed Answers Begins before l m h i after result
  broken_served before after l m h i outside.Failed result b failed memory = subst (IsServed Answers Begins before l m h i after) (sym (failed refl)) (not_written b)
  broken_served before after l m h i outside.Memory result b failed memory = subst (IsServed Answers Begins before l m h i after) (sym (memory refl)) (out_of_memory b)

  moved : (before after : Seen) (l m n : Option (List ℕ)) → (t : Conversation Answers before l m after) → Consumes m n [] → Conversation Answers before l n after
  moved before after l m n t nothing = record {
    taken = t.taken;
    consumed = subst (Consumes l n) (append-nil t.taken) (Consumes-trans l m n t.taken [] t.consumed nothing);
    frames = t.frames;
    rest = t.rest;
    is_full = t.is_full;
    cut = t.cut;
    lines = t.lines;
    answered = t.answered;
  }

  -- what can't be read is told behind the conversation
  last_told : (before after : Seen) (l m h i j : Option (List ℕ)) (t : Conversation Answers before l m after) (end : Served) (result : Served) → ¬ (t.rest ≡ []) → Appends h i t.lines →
      (Appends h j (t.lines ++ last_line t.rest) → IsServed Answers Begins before l m h j after end) → IsLastPut end i j result → IsServed Answers Begins before l m h j after result
  last_told before after l m h i j t end result some put whole (last_put p) = whole (subst (λ x. Appends h j (t.lines ++ x)) (sym (line_for t.rest some)) (Appends-trans h i j t.lines _ put p))
  last_told before after l m h i j t end result some put whole (not_put n p) = not_written (at_last t n (subst (λ x. Appends h j (t.lines ++ take n x)) (sym (line_for t.rest some)) (Appends-trans h i j t.lines _ put p)))
  last_told before after l m h i j t end result some put whole (no_memory n p) = out_of_memory (at_last t n (subst (λ x. Appends h j (t.lines ++ take n x)) (sym (line_for t.rest some)) (Appends-trans h i j t.lines _ put p)))

  pub long_told : (before after : Seen) (l m h i j : Option (List ℕ)) (c : Cutting) (taken frames : ℕ) (result : Served) → Talks Answers before l m h i after c taken frames → c.is_full ≡ true →
      length c.rest ≡ most_frame → IsLastPut served.TooLong i j result → IsServed Answers Begins before l m h j after result
  long_told before after l m h i j c taken frames result t e long p = last_told before after l m h i j t.talk served.TooLong result (λ none_left. absurd (omega (arith, long, ap length t.rest, ap length none_left))) t.put
      (λ put. too_long (record { talk = t.talk; full = t.full ∙ e; put = put })) p

  pub spent_told : (before after : Seen) (l m h i : Option (List ℕ)) (c : Cutting) (taken frames : ℕ) → Talks Answers before l m h i after c taken frames → c.is_full ≡ false → taken ≡ most_taken →
      IsServed Answers Begins before l m h i after served.Spent
  spent_told before after l m h i c taken frames t e all = spent (record { talk = t.talk; room = t.full ∙ e; spent = sym t.bytes ∙ all; put = t.put })

  whole_end : (before after : Seen) (l n h j : Option (List ℕ)) (t : Conversation Answers before l n after) (b : Bool) (frames : ℕ) → begins_bracketed t.rest ≡ b → ¬ (t.rest ≡ []) → IsAtEnd n → t.is_full ≡ false →
      frames ≡ length t.frames → Appends h j (t.lines ++ last_line t.rest) → IsServed Answers Begins before l n h j after (if b then served.Truncated else served.Ended (suc frames))
  whole_end before after l n h j t true frames e some at_end room number put = truncated (record { talk = t; at_end = at_end; room = room; bracket = e; put = put })
  whole_end before after l n h j t false frames e some at_end room number put = ended (suc frames) (record { talk = t; at_end = at_end; room = room; no_bracket = e; put = put; count = ap suc number ∙ sym (one_more t.frames t.rest some) })

  empty_end : (before after : Seen) (l n h j : Option (List ℕ)) (t : Conversation Answers before l n after) (frames : ℕ) → t.rest ≡ [] → IsAtEnd n → t.is_full ≡ false → frames ≡ length t.frames → Appends h j t.lines →
      HasEnded Answers before l n h j after frames
  empty_end before after l n h j t frames e at_end room number put = record {
    talk = t;
    at_end = at_end;
    room = room;
    no_bracket = ap begins_bracketed e;
    put = subst (λ x. Appends h j (t.lines ++ x)) (sym (ap last_line e)) (subst (Appends h j) (sym (append-nil t.lines)) put);
    count = number ∙ sym (ap (frames_read t.frames) e);
  }

  pub end_told : (before after : Seen) (l m n h i j : Option (List ℕ)) (c : Cutting) (taken frames : ℕ) (rest : List ℕ) (result : Served) → Talks Answers before l m h i after c taken frames → c.is_full ≡ false →
      rest ≡ c.rest → Consumes m n [] → IsAtEnd n → IsRestTold rest frames i j result → IsServed Answers Begins before l n h j after result
  unfolding moved
  end_told before after l m n h i j c taken frames rest result t e is_rest nothing at_end (no_rest none_left put) =
      ended frames (empty_end before after l n h j (moved before after l m n t.talk nothing) frames (t.rest ∙ sym is_rest ∙ none_left) at_end (t.full ∙ e) t.number
      (subst (Appends h j) (append-nil t.talk.lines) (Appends-trans h i j t.talk.lines [] t.put put)))
  end_told before after l m n h i j c taken frames rest result t e is_rest nothing at_end (rest_told end some p) =
      last_told before after l n h i j (moved before after l m n t.talk nothing) (end_behind rest frames) result (λ none_left. some (is_rest ∙ sym t.rest ∙ none_left)) t.put
      (λ put. whole_end before after l n h j (moved before after l m n t.talk nothing) (begins_bracketed rest) frames (ap begins_bracketed (t.rest ∙ sym is_rest)) (λ none_left. some (is_rest ∙ sym t.rest ∙ none_left)) at_end (t.full ∙ e) t.number put) p

  -- a turn behind what was seen
  pub talks_seen : (Had Has : Seen → Type 0) (before : Seen) (l m n h i j : Option (List ℕ)) (c d : Cutting) (taken frames count k : ℕ) (piece : List ℕ) → k ≤ length piece →
      c.limit ≡ most_frame → d.limit ≡ most_frame → Consumes m n (take k piece) → Sees Had before (λ after. Talks Answers before l m h i after c taken frames) →
      ((between : Seen) → Had between → Sees Has between (λ after. IsTurn Answers between c d (take k piece) i j after count)) →
      Sees Has before (λ after. Talks Answers before l n h j after d (taken + k) (frames + count))
  talks_seen Had Has before l m n h i j c d taken frames count k piece short e g consumed s turn = sees_behind Has before s.after _ _ s.grows
      (λ after t. talks_turn before s.after after l m n h i j c d taken frames count k piece short e g s.holds consumed t) (turn s.after s.seen)
