-- Frames answered one behind another, and where that breaks off.
use Rattle.std.proofs.Common.{◌≡◌, refl, sym, subst, ap, ◌∙◌, ℕ, ◌+◌, ◌<◌, List, [], ◌∷◌, ◌++◌, length, take, Option, None, Result, Ok, Err, Vec, Global, get_or, drop, append_assoc, append-nil, take-append-drop}
use Rattle.std.proofs.Math.Seq.{take-append-add}
use Rattle.std.proofs.lemmas.List.{map_more, map-append}
use Rattle.kp_frames.specs.Held.{frames_of}
use Rattle.std.specs.Result.{OnOk, OnErr}
use Rattle.std.proofs.KnownBytes.{Appends-nil, Appends-trans}
use Rattle.std.specs.Io.KnownBytes.{Appends}
use Rattle.kp_book.specs.Books.{Seen, SeenGrows}
use Rattle.kp_book.proofs.BookLemmas.{seen_grows_none, seen_grows_on}
use Rattle.kp_conn.specs.Conversations.{Sees, line_of, Answered, none, next, Begun, not_begun, begun, BrokenOff}
use Rattle.kp_conn.specs.Turns.{AreAnswered, BreakOff}

-- ---- what is seen

pub sees_same : (HasSeen Holds : Seen → Type 0) (before : Seen) → HasSeen before → Holds before → Sees HasSeen before Holds
sees_same HasSeen Holds before seen holds = record { after = before; seen = seen; grows = seen_grows_none before; holds = holds }

pub sees_more : (HasSeen : Seen → Type 0) (before : Seen) (Holds More : Seen → Type 0) → ((after : Seen) → Holds after → More after) →
    Sees HasSeen before Holds → Sees HasSeen before More
sees_more HasSeen before Holds More more s = record { after = s.after; seen = s.seen; grows = s.grows; holds = more s.after s.holds }

pub sees_behind : (HasSeen : Seen → Type 0) (before between : Seen) (Holds More : Seen → Type 0) → SeenGrows before between →
    ((after : Seen) → Holds after → More after) → Sees HasSeen between Holds → Sees HasSeen before More
sees_behind HasSeen before between Holds More grew more s = record { after = s.after; seen = s.seen; grows = seen_grows_on before between s.after grew s.grows; holds = more s.after s.holds }

-- ---- frames

module _ (Answers : Seen → List ℕ → Option (List ℕ) → Seen → Type 0) (Begins : Seen → List ℕ → Seen → Type 0) where
  pub answered_on : (before between after : Seen) (fs gs : List (List ℕ)) (ls ks : List ℕ) →
      Answered Answers before fs ls between → Answered Answers between gs ks after → Answered Answers before (fs ++ gs) (ls ++ ks) after
  answered_on before between after fs gs ls ks (none seen) rest = rest
  answered_on before between after fs gs ls ks (next b m a f o hs ms now later) rest =
      subst (λ x. Answered Answers before (f ∷ (hs ++ gs)) x after) (sym (append_assoc (line_of o) ms ks))
      (next before m after f o (hs ++ gs) (ms ++ ks) now (answered_on m between after hs gs ms ks later rest))

  pub one_answered : (before after : Seen) (f : List ℕ) (o : Option (List ℕ)) → Answers before f o after → Answered Answers before (f ∷ []) (line_of o) after
  one_answered before after f o now = subst (λ x. Answered Answers before (f ∷ []) x after) (append-nil (line_of o)) (next before after after f o [] [] now (none after))

  pub none_answered : (seen : Seen) (held : Option (List ℕ)) → AreAnswered Answers seen [] held held seen
  none_answered seen held = record { lines = []; answered = none seen; put = Appends-nil held }

  pub all_answered : (before between after : Seen) (fs gs : List (List ℕ)) (h i j : Option (List ℕ)) →
      AreAnswered Answers before fs h i between → AreAnswered Answers between gs i j after → AreAnswered Answers before (fs ++ gs) h j after
  all_answered before between after fs gs h i j p q = record {
    lines = p.lines ++ q.lines;
    answered = answered_on before between after fs gs p.lines q.lines p.answered q.answered;
    put = Appends-trans h i j p.lines q.lines p.put q.put;
  }

  more_begun : (before after : Seen) (fs gs : List (List ℕ)) → Begun Begins before fs after → Begun Begins before (fs ++ gs) after
  more_begun before after fs gs (not_begun seen hs) = not_begun before (fs ++ gs)
  more_begun before after fs gs (begun b a f hs now) = begun before after f (hs ++ gs) now

  -- more frames come behind
  pub broken_before : (before after : Seen) (fs gs : List (List ℕ)) (written : List ℕ) → BrokenOff Answers Begins before fs written after → BrokenOff Answers Begins before (fs ++ gs) written after
  broken_before before after fs gs written b = record {
    done = b.done;
    more = b.more ++ gs;
    are = ap (λ x. x ++ gs) b.are ∙ append_assoc b.done b.more gs;
    lines = b.lines;
    between = b.between;
    answered = b.answered;
    begun = more_begun b.between after b.more gs b.begun;
    count = b.count;
    front = b.front;
  }

  -- frames were answered before
  pub broken_behind : (before between after : Seen) (fs gs : List (List ℕ)) (ls written : List ℕ) → Answered Answers before fs ls between →
      BrokenOff Answers Begins between gs written after → BrokenOff Answers Begins before (fs ++ gs) (ls ++ written) after
  broken_behind before between after fs gs ls written p b = record {
    done = fs ++ b.done;
    more = b.more;
    are = ap (λ x. fs ++ x) b.are ∙ sym (append_assoc fs b.done b.more);
    lines = ls ++ b.lines;
    between = b.between;
    answered = answered_on before between b.between fs b.done ls b.lines p b.answered;
    begun = b.begun;
    count = length ls + b.count;
    front = ap (λ x. ls ++ x) b.front ∙ sym (take-append-add ls b.lines b.count);
  }

  pub breaks_behind : (before between after : Seen) (fs gs : List (List ℕ)) (h i j : Option (List ℕ)) →
      AreAnswered Answers before fs h i between → BreakOff Answers Begins between gs i j after → BreakOff Answers Begins before (fs ++ gs) h j after
  breaks_behind before between after fs gs h i j p b = record {
    written = p.lines ++ b.written;
    put = Appends-trans h i j p.lines b.written p.put b.put;
    broken = broken_behind before between after fs gs p.lines b.written p.answered b.broken;
  }

  pub breaks_before : (before after : Seen) (fs gs : List (List ℕ)) (h i : Option (List ℕ)) → BreakOff Answers Begins before fs h i after → BreakOff Answers Begins before (fs ++ gs) h i after
  breaks_before before after fs gs h i b = record { written = b.written; put = b.put; broken = broken_before before after fs gs b.written b.broken }

  -- the frame was begun alone
  pub begun_alone : (before after : Seen) (f : List ℕ) (held : Option (List ℕ)) → Begins before f after → BreakOff Answers Begins before (f ∷ []) held held after
  begun_alone before after f held now = record {
    written = [];
    put = Appends-nil held;
    broken = record { done = []; more = f ∷ []; are = refl; lines = []; between = before; answered = none before; begun = begun before after f [] now; count = 0; front = refl };
  }

  -- the frame was answered, and a front of its reply's line written
  pub line_broken : (before after : Seen) (f : List ℕ) (o : Option (List ℕ)) (n : ℕ) (h i : Option (List ℕ)) → Answers before f o after →
      Appends h i (take n (line_of o)) → BreakOff Answers Begins before (f ∷ []) h i after
  line_broken before after f o n h i now put = record {
    written = take n (line_of o);
    put = put;
    broken = record { done = f ∷ []; more = []; are = refl; lines = line_of o; between = after; answered = one_answered before after f o now; begun = not_begun after []; count = n; front = refl };
  }

  -- the frame was answered, and its reply's line written
  pub line_answered : (before after : Seen) (f : List ℕ) (o : Option (List ℕ)) (h i : Option (List ℕ)) → Answers before f o after →
      Appends h i (line_of o) → AreAnswered Answers before (f ∷ []) h i after
  line_answered before after f o h i now put = record { lines = line_of o; answered = one_answered before after f o now; put = put }

  pub nothing_answered : (before after : Seen) (f : List ℕ) (held : Option (List ℕ)) → Answers before f None after → AreAnswered Answers before (f ∷ []) held held after
  nothing_answered before after f held now = line_answered before after f None held held now (Appends-nil held)

-- ---- what is so at each end

pub when_ok : {T E : Type 0} (r : Result T E) (A B : Type 0) → OnOk r A → (A → B) → OnOk r B
when_ok (Ok x) A B p f = f p
when_ok (Err e) A B p f = tt

pub when_err : {T E : Type 0} (r : Result T E) (A B : Type 0) → OnErr r A → (A → B) → OnErr r B
when_err (Ok x) A B p f = tt
when_err (Err e) A B p f = f p

pub at_err : {T E : Type 0} (r : Result T E) (A : Type 0) → A → OnErr r A
at_err (Ok x) A p = tt
at_err (Err e) A p = p

pub at_ok : {T E : Type 0} (r : Result T E) (A : Type 0) → A → OnOk r A
at_ok (Ok x) A p = p
at_ok (Err e) A p = tt

-- ---- lists of frames

pub frames_more : (frames : List (Vec ℕ Global)) (at : ℕ) (x : Vec ℕ Global) (f : List ℕ) → at < length frames → x ≡ get_or frames at x → f ≡ x.items →
    frames_of (take (at + 1) frames) ≡ frames_of (take at frames) ++ f ∷ []
frames_more frames at x f l e g = map_more (λ v. v.items) frames at x l ∙ ap (λ y. frames_of (take at frames) ++ y ∷ []) (sym (g ∙ ap (λ v. v.items) e))

pub frames_split : (frames : List (Vec ℕ Global)) (at : ℕ) (f : List ℕ) → frames_of (take (at + 1) frames) ≡ frames_of (take at frames) ++ f ∷ [] →
    frames_of frames ≡ (frames_of (take at frames) ++ f ∷ []) ++ frames_of (drop (at + 1) frames)
frames_split frames at f e =
    ap frames_of (sym (take-append-drop (at + 1) frames)) ∙ map-append (λ v. v.items) (take (at + 1) frames) (drop (at + 1) frames) ∙ ap (λ y. y ++ frames_of (drop (at + 1) frames)) e
