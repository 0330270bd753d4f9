-- What answering a frame does to what is seen.
use Rattle.std.proofs.Common.{◌≡◌, sym, subst, ℕ, List, Option}
use Rattle.serde_json.specs.Data.{Data}
use Rattle.kp_requests.specs.Requests.{Call}
use Rattle.kp_book.specs.Books.{Opening, Seen, SeenGrows}
use Rattle.kp_book.proofs.BookLemmas.{at_grows, own_grows, seen_grows_none, seen_grows_on}
use Rattle.kp_registry.specs.Legal.{IsLegal}
use Rattle.kp_registry.proofs.Continuing.{front_legal}
use Rattle.kp_service.specs.Answers.{IsMember, told, added, silent, added_silently, AreMembers, none, next, IsAnswer, refusal, alone, together, IsFront, IsBegun, not_begun, begun_together}

member_grows : (o : Opening) (before after : Seen) (call : Call) (reply : Option Data) → IsMember o before call reply after → SeenGrows before after
member_grows o before after call reply (told at id d grows e p) = at_grows at before grows
member_grows o before after call reply (added between id r grows e p) = own_grows between r before grows
member_grows o before after call reply (silent at grows e p) = at_grows at before grows
member_grows o before after call reply (added_silently between r grows e p) = own_grows between r before grows

members_grow : (o : Opening) (before after : Seen) (calls : List Call) (replies : List Data) → AreMembers o before calls replies after → SeenGrows before after
members_grow o before after calls replies (none seen) = seen_grows_none before
members_grow o before after calls replies (next b between a call reply more rs now later) = seen_grows_on before between after (member_grows o before between call reply now) (members_grow o between after more rs later)

pub answer_grows : (o : Opening) (before after : Seen) (bytes : List ℕ) (reply : Option (List ℕ)) → IsAnswer o before bytes reply after → SeenGrows before after
answer_grows o before after bytes reply (refusal e a) = seen_grows_none before
answer_grows o before after bytes reply (alone call d x a m) = member_grows o before after call d m
answer_grows o before after bytes reply (together calls ds x a m) = members_grow o before after calls ds m

front_grows : (o : Opening) (before after : Seen) (calls : List Call) → IsFront o before calls after → SeenGrows before after
front_grows o before after calls f = subst (SeenGrows before) (sym f.looked) (seen_grows_on before f.between _ (members_grow o before f.between f.done f.replies f.answered) (at_grows f.at f.between f.grows))

pub begun_grows : (o : Opening) (before after : Seen) (bytes : List ℕ) → IsBegun o before bytes after → SeenGrows before after
begun_grows o before after bytes (not_begun at grows) = at_grows at before grows
begun_grows o before after bytes (begun_together calls x a f) = front_grows o before after calls f

-- ---- legal books

-- a book with which a legal book begins is legal
pub was_legal : (o : Opening) (before after : Seen) → SeenGrows before after → IsLegal o after.book → IsLegal o before.book
was_legal o before after grows legal = front_legal o before.book grows.book.0 (subst (IsLegal o) grows.book.1 legal)
