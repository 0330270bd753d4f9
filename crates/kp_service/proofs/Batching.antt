-- Calls answered one behind another, and the text of their replies.
use Rattle.std.proofs.Common.{◌≡◌, refl, sym, ap, subst, ◌∙◌, ℕ, suc, ◌-◌, length, take, true, List, [], ◌∷◌, ◌++◌, Option, Some, None, option_map, append-nil, append_assoc, arith}
use Rattle.serde_json.specs.Data.{Data, array}
use Rattle.serde_json.specs.Written.{compact_text, items_text}
use Rattle.kp_rpc.specs.Reply.{RequestError, error_reply}
use Rattle.kp_rpc.specs.Request.{RequestId, id_null}
use Rattle.kp_requests.specs.Frames.{Asks}
use Rattle.kp_requests.specs.Requests.{Asked, Call, single, batch, refused_whole}
use Rattle.kp_book.specs.Books.{Opening, Registration, Seen, Grows, at_book}
use Rattle.kp_book.proofs.BookLemmas.{grows_none}
use Rattle.kp_conn.proofs.Conversing.{sees_behind, sees_more}
use Rattle.kp_service.specs.Answers.{IsMember, told, added, silent, added_silently, with_reply, AreMembers, none, next, items_of, batch_reply, IsFront, IsAnswer, refusal, alone, together, IsBegun, not_begun}
use Rattle.kp_conn.specs.Conversations.{Sees}
use Rattle.kp_registry.specs.declared.book.Registry.{Registry}
use Rattle.kp_registry.specs.Registries.{IsPassOf}
use Rattle.kp_service.specs.Batches.{FromEachBookSeen, call_of, IsReplyLine, line_told, line_added, IsEffect, adds_nothing, adds, IsMemberText, texts_behind, batch_front, text_with, text_then, text_closed, IsNextTold, AreFirstTold, AreMembersText}
use Rattle.kp_service.proofs.Serving.{looks}
use Rattle.kp_additions.specs.Served.{HasLooked, HasSeenAt, Pass}

-- ---- texts

items_told : (ds : List Data) → items_text true (items_of ds) ≡ texts_behind ds ++ 93 ∷ []
items_told [] = refl
items_told (d ∷ ds) = ap (λ t. 44 ∷ t) (ap (λ t. compact_text d ++ t) (items_told ds) ∙ sym (append_assoc (compact_text d) (texts_behind ds) (93 ∷ [])))

-- the array's text is its front and a closing bracket; there is none where there are no replies
pub array_told : (d : Data) (ds : List Data) → compact_text (array (items_of (d ∷ ds))) ≡ batch_front (d ∷ ds) ++ 93 ∷ []
array_told d ds = ap (λ t. 91 ∷ t) (ap (λ t. compact_text d ++ t) (items_told ds) ∙ sym (append_assoc (compact_text d) (texts_behind ds) (93 ∷ [])))

behind_on : (ds es : List Data) → texts_behind (ds ++ es) ≡ texts_behind ds ++ texts_behind es
behind_on [] es = refl
behind_on (d ∷ ds) es = ap (λ t. 44 ∷ t) (ap (λ t. compact_text d ++ t) (behind_on ds es) ∙ sym (append_assoc (compact_text d) (texts_behind ds) (texts_behind es)))

-- one more reply behind others
pub front_more : (first : Data) (ds : List Data) (d : Data) → batch_front ((first ∷ ds) ++ d ∷ []) ≡ batch_front (first ∷ ds) ++ 44 ∷ compact_text d
front_more first ds d = ap (λ t. 91 ∷ t) (ap (λ t. compact_text first ++ t) (behind_on ds (d ∷ []) ∙ ap (λ t. texts_behind ds ++ 44 ∷ t) (append-nil (compact_text d))) ∙ sym (append_assoc (compact_text first) (texts_behind ds) (44 ∷ compact_text d)))

pub front_one : (d : Data) → batch_front (d ∷ []) ≡ 91 ∷ compact_text d
front_one d = ap (λ t. 91 ∷ t) (append-nil (compact_text d))

-- ---- a line without its end

line_length : (text : List ℕ) → length (text ++ 10 ∷ []) ≡ suc (length text)
line_length [] = refl
line_length (b ∷ text) = ap suc (line_length text)

take_front : (text more : List ℕ) → take (length text) (text ++ more) ≡ text
take_front [] more = refl
take_front (b ∷ text) more = ap (λ t. b ∷ t) (take_front text more)

less_one : (n : ℕ) → suc n - 1 ≡ n
less_one n = omega arith

pub text_of_line : (text : List ℕ) → take (length (text ++ 10 ∷ []) - 1) (text ++ 10 ∷ []) ≡ text
text_of_line text = ap (λ n. take n (text ++ 10 ∷ [])) (ap (λ n. n - 1) (line_length text) ∙ less_one (length text)) ∙ take_front text (10 ∷ [])

-- ---- calls

pub none_left : {X : Type 0} (xs : List X) → length xs ≡ 0 → xs ≡ []
none_left [] e = refl
none_left (x ∷ xs) e = absurd (omega arith)

pub members_more : (o : Opening) (before between after : Seen) (calls : List Call) (replies : List Data) (call : Call) (reply : Option Data) →
    AreMembers o before calls replies between → IsMember o between call reply after → AreMembers o before (calls ++ call ∷ []) (replies ++ with_reply reply []) after
members_more o before between after calls replies call reply (none seen) m = next before after after call reply [] [] m (none after)
members_more o before between after calls replies call reply (next b mid a c d cs ds now later) m = subst (λ x. AreMembers o before (c ∷ (cs ++ call ∷ [])) x after) (with_assoc d ds (with_reply reply []))
    (next before mid after c d (cs ++ call ∷ []) (ds ++ with_reply reply []) now (members_more o mid between after cs ds call reply later m))
  where
    with_assoc : (d : Option Data) (ds es : List Data) → with_reply d (ds ++ es) ≡ with_reply d ds ++ es
    with_assoc None ds es = refl
    with_assoc (Some x) ds es = refl

members_on : (o : Opening) (before between after : Seen) (calls more : List Call) (replies others : List Data) → AreMembers o before calls replies between → AreMembers o between more others after →
    (all : List Data) × AreMembers o before (calls ++ more) all after
members_on o before between after calls more replies others (none seen) later = (others, later)
members_on o before between after calls more replies others (next b mid a c d cs ds now rest) later =
    let all : (all : List Data) × AreMembers o mid (cs ++ more) all after = members_on o mid between after cs more ds others rest later in
    (with_reply d all.0, next before mid after c d (cs ++ more) all.0 now all.1)

-- a front of later calls is one of all of them
pub front_behind : (o : Opening) (before between after : Seen) (calls more : List Call) (replies : List Data) → AreMembers o before calls replies between → IsFront o between more after →
    IsFront o before (calls ++ more) after
front_behind o before between after calls more replies p f =
    let all : (all : List Data) × AreMembers o before (calls ++ f.done) all f.between = members_on o before between f.between calls f.done replies f.replies p f.answered in
    record {
      done = calls ++ f.done;
      more = f.more;
      are = ap (λ x. calls ++ x) f.are ∙ sym (append_assoc calls f.done f.more);
      replies = all.0;
      between = f.between;
      answered = all.1;
      at = f.at;
      grows = f.grows;
      looked = f.looked;
    }

-- more calls come behind
pub front_before : (o : Opening) (before after : Seen) (calls more : List Call) → IsFront o before calls after → IsFront o before (calls ++ more) after
front_before o before after calls more f = record {
  done = f.done;
  more = f.more ++ more;
  are = ap (λ x. x ++ more) f.are ∙ append_assoc f.done f.more more;
  replies = f.replies;
  between = f.between;
  answered = f.answered;
  at = f.at;
  grows = f.grows;
  looked = f.looked;
}

-- ---- one call

pub member_of_line : (o : Opening) (before after : Seen) (call : Call) (id : RequestId) (line text : List ℕ) → call.id ≡ Some id → IsReplyLine o before id call.asked line after →
    ((t : List ℕ) → line ≡ t ++ 10 ∷ [] → text ≡ t) → IsMemberText o before call (Some text) after
member_of_line o before after call id line text e (line_told at reply grows p is) cut = (Some reply, told at id reply grows e p, ap Some (cut (compact_text reply) is))
member_of_line o before after call id line text e (line_added between r grows p is) cut = (Some _, added between id r grows e p, ap Some (cut _ is))

pub member_of_effect : (o : Opening) (before after : Seen) (call : Call) → call.id ≡ None → IsEffect o before call.asked after → IsMemberText o before call None after
member_of_effect o before after call e (adds_nothing at grows p) = (None, silent at grows e p, refl)
member_of_effect o before after call e (adds between r grows p) = (None, added_silently between r grows e p, refl)

-- all of these calls were answered
front_of_all : (o : Opening) (before after : Seen) (calls : List Call) (replies : List Data) → AreMembers o before calls replies after → IsFront o before calls after
front_of_all o before after calls replies m = record {
  done = calls;
  more = [];
  are = sym (append-nil calls);
  replies = replies;
  between = after;
  answered = m;
  at = after.book;
  grows = grows_none after.book;
  looked = refl;
}

-- none of them was, and perhaps more was seen
pub front_of_look : (o : Opening) (before : Seen) (at : List Registration) (calls : List Call) → Grows before.book at → IsFront o before calls (at_book at before)
front_of_look o before at calls grows = record { done = []; more = calls; are = refl; replies = []; between = before; answered = none before; at = at; grows = grows; looked = refl }

whole_front : (o : Opening) (before after : Seen) (call : Call) (reply : Option Data) → IsMember o before call reply after → IsFront o before (call ∷ []) after
whole_front o before after call reply m = front_of_all o before after (call ∷ []) (with_reply reply []) (next before after after call reply [] [] m (none after))

-- ---- the text of a batch

front_then : (ds : List Data) (reply : Option Data) → text_then (batch_front ds) reply ≡ batch_front (ds ++ with_reply reply [])
front_then [] None = refl
front_then [] (Some d) = sym (front_one d)
front_then (first ∷ ds) None = sym (ap batch_front (append-nil (first ∷ ds)))
front_then (first ∷ ds) (Some d) = sym (front_more first ds d)

closed_told : (ds : List Data) → text_closed (batch_front ds) ≡ option_map compact_text (batch_reply ds)
closed_told [] = refl
closed_told (d ∷ ds) = ap Some (sym (array_told d ds))

-- ---- one call behind others

pub none_told : (o : Opening) (book : Seen) (calls : List Call) → AreFirstTold o book calls [] calls book
none_told o book calls = record { done = []; are = refl; told = record { replies = []; members = none book; is_text = refl } }

next_told : (o : Opening) (before between after : Seen) (calls rest : List Call) (call : Call) (text longer : List ℕ) → AreFirstTold o before calls text (call ∷ rest) between → IsNextTold o between call text longer after →
    AreFirstTold o before calls longer rest after
next_told o before between after calls rest call text longer f n = record {
  done = f.done ++ call ∷ [];
  are = f.are ∙ sym (append_assoc f.done (call ∷ []) rest);
  told = record {
    replies = f.told.replies ++ with_reply n.0 [];
    members = members_more o before between after f.done f.told.replies call n.0 f.told.members n.1;
    is_text = n.2 ∙ ap (λ t. text_then t n.0) f.told.is_text ∙ front_then f.told.replies n.0;
  };
}

front_on : (o : Opening) (before between after : Seen) (calls rest : List Call) (call : Call) (text : List ℕ) → AreFirstTold o before calls text (call ∷ rest) between → IsFront o between (call ∷ []) after → IsFront o before calls after
front_on o before between after calls rest call text f n = subst (λ x. IsFront o before x after) (sym f.are)
    (front_behind o before between after f.done (call ∷ rest) f.told.replies f.told.members (front_before o between after (call ∷ []) rest n))

all_told : (o : Opening) (before after : Seen) (calls : List Call) (text : List ℕ) → AreFirstTold o before calls text [] after → AreMembersText o before calls (text_closed text) after
all_told o before after calls text f = (f.told.replies, subst (λ x. AreMembers o before x f.told.replies after) (sym (f.are ∙ append-nil f.done)) f.told.members, ap text_closed f.told.is_text ∙ closed_told f.told.replies)

all_front : (o : Opening) (before after : Seen) (calls : List Call) (text : List ℕ) → AreFirstTold o before calls text [] after → IsFront o before calls after
all_front o before after calls text f = subst (λ x. IsFront o before x after) (sym (f.are ∙ append-nil f.done)) (front_of_all o before after f.done f.told.replies f.told.members)

-- ---- the same of all that a pass may have seen

pub then_next : (registry : Registry) (first now later : Pass) (calls rest : List Call) (call : Call) (text longer : List ℕ) → FromEachBookSeen registry first now (λ o book. AreFirstTold o book calls text (call ∷ rest)) →
    FromEachBookSeen registry now later (λ o book. IsNextTold o book call text longer) → FromEachBookSeen registry first later (λ o book. AreFirstTold o book calls longer rest)
then_next registry first now later calls rest call text longer f n o book seen =
    let so_far : Sees (HasSeenAt registry now o) book (AreFirstTold o book calls text (call ∷ rest)) = f o book seen in
    sees_behind (HasSeenAt registry later o) book so_far.after (IsNextTold o so_far.after call text longer) (AreFirstTold o book calls longer rest) so_far.grows
    (λ after p. next_told o book so_far.after after calls rest call text longer so_far.holds p) (n o so_far.after so_far.seen)

pub then_broken : (registry : Registry) (first now later : Pass) (calls rest : List Call) (call : Call) (text : List ℕ) → FromEachBookSeen registry first now (λ o book. AreFirstTold o book calls text (call ∷ rest)) →
    FromEachBookSeen registry now later (λ o book. IsFront o book (call ∷ [])) → FromEachBookSeen registry first later (λ o book. IsFront o book calls)
then_broken registry first now later calls rest call text f n o book seen =
    let so_far : Sees (HasSeenAt registry now o) book (AreFirstTold o book calls text (call ∷ rest)) = f o book seen in
    sees_behind (HasSeenAt registry later o) book so_far.after (IsFront o so_far.after (call ∷ [])) (IsFront o book calls) so_far.grows
    (λ after p. front_on o book so_far.after after calls rest call text so_far.holds p) (n o so_far.after so_far.seen)

-- what holds of all that is seen holds in a weaker form
pub weaker : (registry : Registry) (first now : Pass) (P Q : Opening → Seen → Seen → Type 0) → ((o : Opening) (book after : Seen) → P o book after → Q o book after) → FromEachBookSeen registry first now P → FromEachBookSeen registry first now Q
weaker registry first now P Q f h o book seen = sees_more (HasSeenAt registry now o) book (P o book) (Q o book) (f o book) (h o book seen)

pub told_whole : (registry : Registry) (first now : Pass) (calls : List Call) (text : List ℕ) (whole : Option (List ℕ)) → whole ≡ text_closed text → FromEachBookSeen registry first now (λ o book. AreFirstTold o book calls text []) →
    FromEachBookSeen registry first now (λ o book. AreMembersText o book calls whole)
told_whole registry first now calls text whole is h = weaker registry first now (λ o book. AreFirstTold o book calls text []) (λ o book. AreMembersText o book calls whole)
    (λ o book after f. subst (λ a. AreMembersText o book calls a after) (sym is) (all_told o book after calls text f)) h

pub whole_broken : (registry : Registry) (first now : Pass) (calls : List Call) (text : List ℕ) → FromEachBookSeen registry first now (λ o book. AreFirstTold o book calls text []) → FromEachBookSeen registry first now (λ o book. IsFront o book calls)
whole_broken registry first now calls text h = weaker registry first now (λ o book. AreFirstTold o book calls text []) (λ o book. IsFront o book calls) (λ o book after f. all_front o book after calls text f) h

-- ---- one call behind others, from its text

pub next_some : (o : Opening) (book after : Seen) (call : Call) (text longer reply : List ℕ) (reply_text : Option (List ℕ)) → reply_text ≡ Some reply → longer ≡ text_with text reply → IsMemberText o book call reply_text after → IsNextTold o book call text longer after
next_some o book after call text longer reply reply_text is then h = by h.0 h.1 (sym is ∙ h.2)
  where
    by : (d : Option Data) → IsMember o book call d after → Some reply ≡ option_map compact_text d → IsNextTold o book call text longer after
    by None m e = absurd (cc e)
    by (Some d) m e =
        let same : reply ≡ compact_text d = cc e in
        (Some d, m, then ∙ ap (text_with text) same)

pub next_none : (o : Opening) (book after : Seen) (call : Call) (text : List ℕ) (reply_text : Option (List ℕ)) → reply_text ≡ None → IsMemberText o book call reply_text after → IsNextTold o book call text text after
next_none o book after call text reply_text is h = by h.0 h.1 (sym is ∙ h.2)
  where
    by : (d : Option Data) → IsMember o book call d after → None ≡ option_map compact_text d → IsNextTold o book call text text after
    by None m e = (None, m, refl)
    by (Some d) m e = absurd (cc e)

pub front_of_text : (o : Opening) (book after : Seen) (call : Call) (reply_text : Option (List ℕ)) → IsMemberText o book call reply_text after → IsFront o book (call ∷ []) after
front_of_text o book after call reply_text h = whole_front o book after call h.0 h.1

-- ---- frames

pub answer_alone : (o : Opening) (before after : Seen) (bytes : List ℕ) (call : Call) (reply_text : Option (List ℕ)) → Asks bytes (single call) → IsMemberText o before call reply_text after → IsAnswer o before bytes reply_text after
answer_alone o before after bytes call reply_text asked h = subst (λ x. IsAnswer o before bytes x after) (sym h.2) (alone call h.0 after asked h.1)

pub answer_together : (o : Opening) (before after : Seen) (bytes : List ℕ) (calls : List Call) (reply_text : Option (List ℕ)) → Asks bytes (batch calls) → AreMembersText o before calls reply_text after → IsAnswer o before bytes reply_text after
answer_together o before after bytes calls reply_text asked h = subst (λ x. IsAnswer o before bytes x after) (sym h.2) (together calls h.0 after asked h.1)

pub answer_refused : (o : Opening) (before : Seen) (bytes : List ℕ) (e : RequestError) (text : List ℕ) → Asks bytes (refused_whole e) → text ≡ compact_text (error_reply id_null e) → IsAnswer o before bytes (Some text) before
answer_refused o before bytes e text asked is = subst (λ x. IsAnswer o before bytes (Some x) before) (sym is) (refusal e asked)

-- ---- calls by their ids

pub with_id : (registry : Registry) (first now : Pass) (id other : Option RequestId) (asked : Asked) (reply_text : Option (List ℕ)) → id ≡ other → FromEachBookSeen registry first now (λ o book. IsMemberText o book (call_of other asked) reply_text) →
    FromEachBookSeen registry first now (λ o book. IsMemberText o book (call_of id asked) reply_text)
with_id registry first now id other asked reply_text is h = subst (λ i. FromEachBookSeen registry first now (λ o book. IsMemberText o book (call_of i asked) reply_text)) (sym is) h

-- where memory ran out in a call
pub looked_front : (registry : Registry) (before after : Pass) (calls : List Call) → IsPassOf registry after → HasLooked before after → FromEachBookSeen registry before after (λ o seen. IsFront o seen calls)
looked_front registry before after calls is looked = looks registry before after (λ o seen. IsFront o seen calls) is looked (λ o s at grows seen. front_of_look o s at calls grows)

pub looked_begun : (registry : Registry) (before after : Pass) (bytes : List ℕ) → IsPassOf registry after → HasLooked before after → FromEachBookSeen registry before after (λ o seen. IsBegun o seen bytes)
looked_begun registry before after bytes is looked = looks registry before after (λ o seen. IsBegun o seen bytes) is looked (λ o s at grows seen. not_begun at grows)
