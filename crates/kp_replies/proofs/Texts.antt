-- The text that is written of a result or a failure is read as its tree, and tells nothing else.
use Rattle.std.proofs.Common.{◌≡◌, ℕ, ◌^◌, ◌<◌, ◌≤◌, List, [], ◌∷◌, true, Option, Some, None, option_map, option_and_then, refl, sym, ap, ◌∙◌, subst, arith}
use Rattle.std.specs.Prelude.{codes, pos}
use Rattle.serde_json.specs.Data.{Data, array, object, Items, Members, no_members, put, depth}
use Rattle.serde_json.specs.Read.{read, max_depth}
use Rattle.serde_json.specs.Written.{compact_text}
use Rattle.kp_kore.specs.Syntax.{Text, KorePattern}
use Rattle.kp_json.specs.Written.{wrapped_pattern}
use Rattle.kp_kore.specs.Causes.{foreign}
use Rattle.kp_kore.specs.Implied.{Implied, not_valid, valid}
use Rattle.kp_results.specs.Results.{NextParts, Ending, vacuous, depth_bound, stuck, branching, cut_point, terminal, aborted, ExecutedParts, Limit, weighed, wide_call, predicate, limit}
use Rattle.kp_rpc.specs.Request.{RequestId}
use Rattle.kp_rpc.specs.Reply.{result_reply, reply_bytes}
use Rattle.kp_rpc.specs.Request.{IsReadId}
use Rattle.kp_rpc.specs.Questions.{with_text}
use Rattle.kp_rpc.proofs.CompactRead.{compact_reads}
use Rattle.kp_rpc.proofs.ReadBack.{Back, ItemsBack, IsBack, two_back, number_back, id_back, reply_back, wrapped_back, plain_back, read_compact}
use Rattle.kp_replies.specs.Written.{state_tree, next_tree, first_item, next_trees, with_nexts, executed_members, executed_tree, valid_object, implied_tree, simplified_tree, added_tree}
use Rattle.kp_replies.specs.Failures.{not_in_a_term, not_one_term, two_meanings, bad_text, unknown_import, bad_axiom, bad_sentence, full_book, Failure, bad_sides, undecided, bad_module, duplicate, limit_tree, failure_data, failure_code, failure_error, failed_reply, failure_reply}
use Rattle.kp_replies.specs.Read.{Method, execute, implies, simplify, add_module, ServerReply, added, failed, is_module_id, read_reply}
use Rattle.kp_replies.specs.Replies.{IsReplyOf, Fits, FailureFits}
use Rattle.kp_replies.proofs.Lines.{same_front}
use Rattle.kp_replies.proofs.Back.{added_read_back, failure_read_back}

-- ---- states

-- members with a tree more, where there is one
abbrev more : Text → Option Data → Members → Option Members
more key x o = option_map (λ d. put key d o) x

one_state_back : (x : Option Data) → IsBack x → IsBack (option_map object (option_and_then (λ o. Some o) (more (codes "term") x no_members)))
one_state_back None h = tt
one_state_back (Some d) h = record { numbers = (h.numbers, tt); is = rw h.is refl }

two_state_back : (x y : Option Data) → IsBack x → IsBack y → IsBack (option_map object (option_and_then (more (codes "predicate") y) (more (codes "term") x no_members)))
two_state_back None y h k = tt
two_state_back (Some d) None h k = tt
two_state_back (Some d) (Some e) h k = record { numbers = (k.numbers, (h.numbers, tt)); is = rw (k.is, h.is) refl }

pub state_back : (term : KorePattern) (predicate : Option KorePattern) → IsBack (state_tree (record { term = term; predicate = predicate }))
state_back term None = one_state_back (wrapped_pattern term) (wrapped_back term)
state_back term (Some q) = two_state_back (wrapped_pattern term) (wrapped_pattern q) (wrapped_back term) (wrapped_back q)

-- ---- next states

one_next_back : (rule : Option Text) (x z : Option Data) → IsBack x → IsBack z
    → IsBack (option_map object (option_and_then (more (codes "rule-predicate") z) (option_and_then (λ o. Some o) (more (codes "term") x (with_text (codes "rule-id") rule no_members)))))
one_next_back rule None z h l = tt
one_next_back rule (Some d) None h l = tt
one_next_back None (Some d) (Some f) h l = record { numbers = (l.numbers, (h.numbers, tt)); is = rw (l.is, h.is) refl }
one_next_back (Some id) (Some d) (Some f) h l = record { numbers = (tt, (l.numbers, (h.numbers, tt))); is = rw (l.is, h.is) refl }

two_next_back : (rule : Option Text) (x y z : Option Data) → IsBack x → IsBack y → IsBack z
    → IsBack (option_map object (option_and_then (more (codes "rule-predicate") z) (option_and_then (more (codes "predicate") y) (more (codes "term") x (with_text (codes "rule-id") rule no_members)))))
two_next_back rule None y z h k l = tt
two_next_back rule (Some d) None z h k l = tt
two_next_back rule (Some d) (Some e) None h k l = tt
two_next_back None (Some d) (Some e) (Some f) h k l = record { numbers = (k.numbers, (l.numbers, (h.numbers, tt))); is = rw (k.is, l.is, h.is) refl }
two_next_back (Some id) (Some d) (Some e) (Some f) h k l = record { numbers = (k.numbers, (tt, (l.numbers, (h.numbers, tt)))); is = rw (k.is, l.is, h.is) refl }

next_back : (rule : Option Text) (when term : KorePattern) (predicate : Option KorePattern) → IsBack (next_tree (record { rule = rule; predicate = when; state = record { term = term; predicate = predicate } }))
next_back rule when term None = one_next_back rule (wrapped_pattern term) (wrapped_pattern when) (wrapped_back term) (wrapped_back when)
next_back rule when term (Some q) = two_next_back rule (wrapped_pattern term) (wrapped_pattern q) (wrapped_pattern when) (wrapped_back term) (wrapped_back q) (wrapped_back when)

abbrev AreBack : Option Items → Type 0
AreBack None = Unit {0}
AreBack (Some ds) = ItemsBack ds

first_back : (x : Option Data) (y : Option Items) → IsBack x → AreBack y → AreBack (first_item x y)
first_back None y h k = tt
first_back (Some d) None h k = tt
first_back (Some d) (Some ds) h k = record { numbers = (h.numbers, k.numbers); is = rw (h.is, k.is) refl }

nexts_back : (ns : List NextParts) → AreBack (next_trees ns)
nexts_back [] = record { numbers = tt; is = refl }
nexts_back (n ∷ ns) = first_back (next_tree n) (next_trees ns) (next_back n.rule n.predicate n.state.term n.state.predicate) (nexts_back ns)

-- ---- execute

branching_back : (n : ℕ) (s : Data) (x : Option Items) → n < 2 ^ 64 → Back s → AreBack x → IsBack (option_map object (option_map (λ ds. put (codes "next-states") (array ds) (executed_members n branching s)) x))
branching_back n s None fits h i = tt
branching_back n s (Some ds) fits h i = let m = number_back n fits in record { numbers = (m.numbers, (i.numbers, (tt, (h.numbers, tt)))); is = rw (m.is, i.is, h.is) refl }

cut_back : (n : ℕ) (id : Text) (s : Data) (x : Option Items) → n < 2 ^ 64 → Back s → AreBack x → IsBack (option_map object (option_map (λ ds. put (codes "next-states") (array ds) (executed_members n (cut_point id) s)) x))
cut_back n id s None fits h i = tt
cut_back n id s (Some ds) fits h i = let m = number_back n fits in record { numbers = (m.numbers, (i.numbers, (tt, (tt, (h.numbers, tt))))); is = rw (m.is, i.is, h.is) refl }

made_back : (n : ℕ) (e : Ending) (ns : List NextParts) (s : Data) → n < 2 ^ 64 → Back s → IsBack (option_map object (with_nexts e ns (executed_members n e s)))
made_back n vacuous ns s fits h = let m = number_back n fits in record { numbers = (m.numbers, (tt, (h.numbers, tt))); is = rw (m.is, h.is) refl }
made_back n depth_bound ns s fits h = let m = number_back n fits in record { numbers = (m.numbers, (tt, (h.numbers, tt))); is = rw (m.is, h.is) refl }
made_back n stuck ns s fits h = let m = number_back n fits in record { numbers = (m.numbers, (tt, (h.numbers, tt))); is = rw (m.is, h.is) refl }
made_back n branching ns s fits h = branching_back n s (next_trees ns) fits h (nexts_back ns)
made_back n (cut_point id) ns s fits h = cut_back n id s (next_trees ns) fits h (nexts_back ns)
made_back n (terminal id) ns s fits h = let m = number_back n fits in record { numbers = (m.numbers, (tt, (tt, (h.numbers, tt)))); is = rw (m.is, h.is) refl }
made_back n (aborted (foreign id)) ns s fits h = let m = number_back n fits in record { numbers = (m.numbers, (tt, (tt, (h.numbers, tt)))); is = rw (m.is, h.is) refl }

from_state : (x : ExecutedParts) (y : Option Data) → x.depth < 2 ^ 64 → IsBack y → IsBack (option_and_then (λ s. option_map object (with_nexts x.ending x.nexts (executed_members x.depth x.ending s))) y)
from_state x None fits h = tt
from_state x (Some s) fits h = made_back x.depth x.ending x.nexts s fits h

pub executed_back : (x : ExecutedParts) → x.depth < 2 ^ 64 → IsBack (executed_tree x)
executed_back x fits = from_state x (state_tree x.state) fits (state_back x.state.term x.state.predicate)

-- ---- lines

-- where the text of a tree is read as that tree, its line tells what the tree tells
pub line_tells : (method : Method) (d : Data) (r : ServerReply) → read (compact_text d) ≡ Some d → IsReplyOf method (reply_bytes d) r → read_reply method d ≡ Some r
line_tells method d r back (text, is, (e, frame, tells)) =
    let one : compact_text d ≡ text = same_front (compact_text d) text is in
    let both : Some e ≡ Some d = sym frame.reads ∙ ap read (sym one) ∙ back in
    let same : e ≡ d = cc both in
    subst (λ t. read_reply method t ≡ Some r) same tells

-- a line whose tree is what JSON makes of its outline tells what its tree tells
pub line_read : (method : Method) (d : Data) (r : ServerReply) → Back d → IsReplyOf method (reply_bytes d) r → read_reply method d ≡ Some r
line_read method d r back (text, is, (e, frame, tells)) =
    let one : compact_text d ≡ text = same_front (compact_text d) text is in
    subst (λ t. read_reply method t ≡ Some r) (compact_reads d e back (ap read one ∙ frame.reads)) tells

pub one_reply : (method : Method) (d : Data) (r s : ServerReply) → read_reply method d ≡ Some s → read_reply method d ≡ Some r → r ≡ s
one_reply method d r s h k = let both : Some s ≡ Some r = sym h ∙ k in cc both

-- the line of a result of execute
pub executed_line_read : (method : Method) (id : RequestId) (x : ExecutedParts) (tree : Data) (r : ServerReply) → IsReadId id → x.depth < 2 ^ 64 → executed_tree x ≡ Some tree
    → IsReplyOf method (reply_bytes (result_reply id tree)) r → read_reply method (result_reply id tree) ≡ Some r
executed_line_read method id x tree r lawful fits e h = line_read method (result_reply id tree) r (reply_back id tree lawful (plain_back (executed_tree x) tree (executed_back x fits) e)) h

pub executed_read : (id : RequestId) (x : ExecutedParts) (tree : Data) → IsReadId id → x.depth < 2 ^ 64 → executed_tree x ≡ Some tree → depth (result_reply id tree) ≤ max_depth
    → read (compact_text (result_reply id tree)) ≡ Some (result_reply id tree)
executed_read id x tree lawful fits e shallow = read_compact (result_reply id tree) (reply_back id tree lawful (plain_back (executed_tree x) tree (executed_back x fits) e)) shallow

-- ---- implies

implied_back : (x : Implied) → IsBack (implied_tree x)
implied_back not_valid = record { numbers = (tt, tt); is = refl }
implied_back (valid p q) = two_back valid_object (wrapped_pattern p) (wrapped_pattern q) (λ d e h k. record { numbers = ((h.numbers, (k.numbers, tt)), (tt, tt)); is = rw (h.is, k.is) refl }) (wrapped_back p) (wrapped_back q)

pub implied_read : (id : RequestId) (x : Implied) (tree : Data) → IsReadId id → implied_tree x ≡ Some tree → depth (result_reply id tree) ≤ max_depth
    → read (compact_text (result_reply id tree)) ≡ Some (result_reply id tree)
implied_read id x tree lawful e shallow = read_compact (result_reply id tree) (reply_back id tree lawful (plain_back (implied_tree x) tree (implied_back x) e)) shallow

-- the line of a result of implies
pub implied_line_read : (method : Method) (id : RequestId) (x : Implied) (tree : Data) (r : ServerReply) → IsReadId id → implied_tree x ≡ Some tree
    → IsReplyOf method (reply_bytes (result_reply id tree)) r → read_reply method (result_reply id tree) ≡ Some r
implied_line_read method id x tree r lawful e h = line_read method (result_reply id tree) r (reply_back id tree lawful (plain_back (implied_tree x) tree (implied_back x) e)) h

-- ---- simplify and add-module

one_member_back : (x : Option Data) → IsBack x → IsBack (option_map object (more (codes "state") x no_members))
one_member_back None h = tt
one_member_back (Some d) h = record { numbers = (h.numbers, tt); is = rw h.is refl }

simplified_back : (p : KorePattern) → IsBack (simplified_tree p)
simplified_back p = one_member_back (wrapped_pattern p) (wrapped_back p)

pub simplified_line_read : (id : RequestId) (p : KorePattern) (tree : Data) (r : ServerReply) → IsReadId id → simplified_tree p ≡ Some tree
    → IsReplyOf simplify (reply_bytes (result_reply id tree)) r → read_reply simplify (result_reply id tree) ≡ Some r
simplified_line_read id p tree r lawful e h = line_read simplify (result_reply id tree) r (reply_back id tree lawful (plain_back (simplified_tree p) tree (simplified_back p) e)) h

added_back : (name : Text) → Back (added_tree name)
added_back name = record { numbers = (tt, tt); is = refl }

pub added_line : (id : RequestId) (name : Text) (r : ServerReply) → IsReadId id → is_module_id name ≡ true → IsReplyOf add_module (reply_bytes (result_reply id (added_tree name))) r → r ≡ added name
added_line id name r lawful w h =
    let back : Back (result_reply id (added_tree name)) = reply_back id (added_tree name) lawful (added_back name) in
    one_reply add_module (result_reply id (added_tree name)) r (added name) (added_read_back id name w) (line_read add_module (result_reply id (added_tree name)) r back h)

-- ---- failures

limit_back : (l : Limit) → Fits l → Back (limit_tree l)
limit_back (weighed w n) fits = let m = number_back n fits in record { numbers = (tt, (m.numbers, tt)); is = rw m.is refl }
limit_back (wide_call first second symbol) fits = record { numbers = (tt, (tt, (tt, (tt, tt)))); is = refl }

unknown_back : (x : Option Data) → IsBack x → IsBack (option_map object (more (codes "unknown-predicate") x no_members))
unknown_back None h = tt
unknown_back (Some d) h = record { numbers = (h.numbers, tt); is = rw h.is refl }

limited_back : (x : Option Data) (l : Data) → IsBack x → Back l → IsBack (option_map object (more (codes "unknown-predicate") x (put (codes "limit") l no_members)))
limited_back None l h k = tt
limited_back (Some d) l h k = record { numbers = (k.numbers, (h.numbers, tt)); is = rw (k.is, h.is) refl }

data_back : (f : Failure) → FailureFits f → IsBack (failure_data f)
data_back (bad_sides (not_in_a_term name)) fits = record { numbers = (tt, (tt, tt)); is = refl }
data_back (bad_sides not_one_term) fits = record { numbers = (tt, tt); is = refl }
data_back (bad_sides (two_meanings name)) fits = record { numbers = (tt, (tt, tt)); is = refl }
data_back (undecided (predicate p None)) fits = unknown_back (wrapped_pattern p) (wrapped_back p)
data_back (undecided (predicate p (Some l))) fits = limited_back (wrapped_pattern p) (limit_tree l) (wrapped_back p) (limit_back l fits)
data_back (undecided (limit l)) fits = let k = limit_back l fits in record { numbers = (k.numbers, tt); is = rw k.is refl }
data_back (bad_module (bad_text at kind)) fits =
    let a = number_back at fits.0 in
    let k = number_back kind fits.1 in
    record { numbers = (a.numbers, (tt, (k.numbers, tt))); is = rw (a.is, k.is) refl }
data_back (bad_module (unknown_import name)) fits = record { numbers = (tt, (tt, tt)); is = refl }
data_back (bad_module (bad_axiom n)) fits = let m = number_back n fits in record { numbers = (m.numbers, (tt, tt)); is = rw m.is refl }
data_back (bad_module (bad_sentence n)) fits = let m = number_back n fits in record { numbers = (tt, (m.numbers, tt)); is = rw m.is refl }
data_back (bad_module full_book) fits = record { numbers = (tt, tt); is = refl }
data_back (duplicate n name) fits = let m = number_back n fits in record { numbers = (m.numbers, (tt, tt)); is = rw m.is refl }

code_fits : (f : Failure) → failure_code f < 2 ^ 64
code_fits (bad_sides f) = omega arith
code_fits (undecided u) = omega arith
code_fits (bad_module f) = omega arith
code_fits (duplicate n name) = omega arith

error_back : (id : RequestId) (f : Failure) (d : Data) → IsReadId id → Back d → Back (failed_reply id (failure_error f d))
error_back id f d lawful h =
    let i = id_back id lawful in
    let m = number_back (failure_code f) (code_fits f) in
    record { numbers = ((m.numbers, (h.numbers, (tt, tt))), (i.numbers, (tt, tt))); is = rw (m.is, h.is, i.is) refl }

reply_made : (id : RequestId) (f : Failure) (x : Option Data) → IsReadId id → IsBack x → IsBack (option_map (λ d. failed_reply id (failure_error f d)) x)
reply_made id f None lawful h = tt
reply_made id f (Some d) lawful h = error_back id f d lawful h

pub failure_line : (method : Method) (id : RequestId) (f : Failure) (tree : Data) (r : ServerReply) → IsReadId id → FailureFits f → failure_reply id f ≡ Some tree
    → IsReplyOf method (reply_bytes tree) r → r ≡ failed (pos (failure_code f))
failure_line method id f tree r lawful fits e h =
    let back : Back tree = plain_back (failure_reply id f) tree (reply_made id f (failure_data f) lawful (data_back f fits)) e in
    one_reply method tree r (failed (pos (failure_code f))) (failure_read_back method id f tree e) (line_read method tree r back h)
