-- The trees that are written of results and failures have no float, so their text is exact.
use Rattle.std.proofs.Common.{◌≡◌, ℕ, List, [], ◌∷◌, false, Option, Some, None, option_map, option_and_then, refl, ap, ◌∙◌}
use Rattle.std.specs.Prelude.{codes}
use Rattle.serde_json.specs.Data.{Data, unsigned, number, string, array, object, Items, Members, no_members, put}
use Rattle.serde_json.specs.Written.{has_float, items_have_float, members_have_float}
use Rattle.kp_kore.specs.Syntax.{Text, KorePattern}
use Rattle.kp_json.specs.Written.{wrapped_pattern}
use Rattle.kp_kore.specs.Causes.{foreign}
use Rattle.kp_kore.specs.Implied.{Implied, not_valid, valid}
use Rattle.kp_results.specs.Results.{StateParts, NextParts, Ending, vacuous, depth_bound, stuck, branching, cut_point, terminal, aborted, ExecutedParts, Limit, weighed, wide_call, Undecided, predicate, limit}
use Rattle.kp_rpc.specs.Request.{RequestId}
use Rattle.kp_rpc.specs.Reply.{result_reply, reply_bytes}
use Rattle.kp_rpc.specs.Questions.{with_text}
use Rattle.kp_rpc.proofs.Floats.{IsPlain, two_plain, wrapped_is_plain, plain_is}
use Rattle.kp_rpc.proofs.QuestionText.{put_plain, text_plain}
use Rattle.kp_replies.specs.Written.{with_pattern, with_optional, with_state, state_tree, next_tree, first_item, next_trees, with_ending, with_nexts, executed_members, executed_tree, valid_object, implied_tree, simplified_tree, added_tree}
use Rattle.kp_replies.specs.Aborted.{with_undecided, aborted_members, aborted_tree}
use Rattle.kp_replies.specs.Failures.{not_in_a_term, not_one_term, two_meanings, bad_text, unknown_import, bad_axiom, bad_sentence, full_book, Failure, bad_sides, undecided, bad_module, duplicate, limit_tree, with_limit, undecided_data, failure_data, failure_error}

-- ---- members

-- members, where there are some, have no float
abbrev MembersPlain : Option Members → Type 0
MembersPlain None = Unit {0}
MembersPlain (Some o) = members_have_float o ≡ false

abbrev ItemsPlain : Option Items → Type 0
ItemsPlain None = Unit {0}
ItemsPlain (Some ds) = items_have_float ds ≡ false

object_plain : (x : Option Members) → MembersPlain x → IsPlain (option_map object x)
object_plain None h = tt
object_plain (Some o) h = h

and_then_plain : (f : Members → Option Members) (x : Option Members) → ((o : Members) → members_have_float o ≡ false → MembersPlain (f o)) → MembersPlain x → MembersPlain (option_and_then f x)
and_then_plain f None keeps h = tt
and_then_plain f (Some o) keeps h = keeps o h

put_some : (k : Text) (x : Option Data) (o : Members) → IsPlain x → members_have_float o ≡ false → MembersPlain (option_map (λ d. put k d o) x)
put_some k None o h m = tt
put_some k (Some d) o h m = put_plain k d o h m

pattern_plain : (k : Text) (p : KorePattern) (o : Members) → members_have_float o ≡ false → MembersPlain (with_pattern k p o)
pattern_plain k p o m = put_some k (wrapped_pattern p) o (wrapped_is_plain p) m

optional_plain : (k : Text) (p : Option KorePattern) (o : Members) → members_have_float o ≡ false → MembersPlain (with_optional k p o)
optional_plain k None o m = m
optional_plain k (Some p) o m = pattern_plain k p o m

-- ---- states

with_state_plain : (s : StateParts) (o : Members) → members_have_float o ≡ false → MembersPlain (with_state s o)
with_state_plain s o m =
    and_then_plain (with_optional (codes "predicate") s.predicate) (with_pattern (codes "term") s.term o) (λ q h. optional_plain (codes "predicate") s.predicate q h) (pattern_plain (codes "term") s.term o m)

state_plain : (s : StateParts) → IsPlain (state_tree s)
state_plain s = object_plain (with_state s no_members) (with_state_plain s no_members refl)

next_plain : (n : NextParts) → IsPlain (next_tree n)
next_plain n =
    let o : Members = with_text (codes "rule-id") n.rule no_members in
    object_plain (option_and_then (with_pattern (codes "rule-predicate") n.predicate) (with_state n.state o))
    (and_then_plain (with_pattern (codes "rule-predicate") n.predicate) (with_state n.state o) (λ q h. pattern_plain (codes "rule-predicate") n.predicate q h)
    (with_state_plain n.state o (text_plain (codes "rule-id") n.rule no_members refl)))

first_plain : (x : Option Data) (y : Option Items) → IsPlain x → ItemsPlain y → ItemsPlain (first_item x y)
first_plain None y h k = tt
first_plain (Some d) None h k = tt
first_plain (Some d) (Some ds) h k = rw (h, k) refl

nexts_plain : (ns : List NextParts) → ItemsPlain (next_trees ns)
nexts_plain [] = refl
nexts_plain (n ∷ ns) = first_plain (next_tree n) (next_trees ns) (next_plain n) (nexts_plain ns)

-- ---- execute

ending_plain : (e : Ending) (o : Members) → members_have_float o ≡ false → members_have_float (with_ending e o) ≡ false
ending_plain vacuous o m = put_plain (codes "reason") _ o refl m
ending_plain depth_bound o m = put_plain (codes "reason") _ o refl m
ending_plain stuck o m = put_plain (codes "reason") _ o refl m
ending_plain branching o m = put_plain (codes "reason") _ o refl m
ending_plain (cut_point id) o m = put_plain (codes "reason") _ (put (codes "rule") (string id) o) refl (put_plain (codes "rule") (string id) o refl m)
ending_plain (terminal id) o m = put_plain (codes "reason") _ (put (codes "rule") (string id) o) refl (put_plain (codes "rule") (string id) o refl m)
ending_plain (aborted (foreign id)) o m = put_plain (codes "reason") _ (put (codes "foreign-rule") (string id) o) refl (put_plain (codes "foreign-rule") (string id) o refl m)

put_items : (x : Option Items) (o : Members) → ItemsPlain x → members_have_float o ≡ false → MembersPlain (option_map (λ ds. put (codes "next-states") (array ds) o) x)
put_items None o h m = tt
put_items (Some ds) o h m = put_plain (codes "next-states") (array ds) o h m

with_nexts_plain : (e : Ending) (ns : List NextParts) (o : Members) → members_have_float o ≡ false → MembersPlain (with_nexts e ns o)
with_nexts_plain vacuous ns o m = m
with_nexts_plain depth_bound ns o m = m
with_nexts_plain stuck ns o m = m
with_nexts_plain branching ns o m = put_items (next_trees ns) o (nexts_plain ns) m
with_nexts_plain (cut_point id) ns o m = put_items (next_trees ns) o (nexts_plain ns) m
with_nexts_plain (terminal id) ns o m = m
with_nexts_plain (aborted cause) ns o m = m

members_plain : (depth : ℕ) (e : Ending) (s : Data) → has_float s ≡ false → members_have_float (executed_members depth e s) ≡ false
members_plain depth e s h =
    let o : Members = put (codes "state") s no_members in
    put_plain (codes "depth") (number (unsigned depth)) (with_ending e o) refl (ending_plain e o (put_plain (codes "state") s no_members h refl))

made_plain : (x : ExecutedParts) (s : Option Data) → IsPlain s → IsPlain (option_and_then (λ d. option_map object (with_nexts x.ending x.nexts (executed_members x.depth x.ending d))) s)
made_plain x None h = tt
made_plain x (Some s) h = object_plain _ (with_nexts_plain x.ending x.nexts (executed_members x.depth x.ending s) (members_plain x.depth x.ending s h))

executed_plain : (x : ExecutedParts) → IsPlain (executed_tree x)
executed_plain x = made_plain x (state_tree x.state) (state_plain x.state)

-- a text that is exact for a tree without a float
exact : (x : Option Data) (d : Data) (id : RequestId) (text : List ℕ) → IsPlain x → Some d ≡ x → (has_float d ≡ false → text ≡ reply_bytes (result_reply id d))
    → Some text ≡ option_map (λ t. reply_bytes (result_reply id t)) x
exact x d id text plain e h = ap Some (h (plain_is x d plain e)) ∙ ap (option_map (λ t. reply_bytes (result_reply id t))) e

pub executed_exact : (x : ExecutedParts) (d : Data) (id : RequestId) (text : List ℕ) → Some d ≡ executed_tree x → (has_float d ≡ false → text ≡ reply_bytes (result_reply id d))
    → Some text ≡ option_map (λ t. reply_bytes (result_reply id t)) (executed_tree x)
executed_exact x d id text e h = exact (executed_tree x) d id text (executed_plain x) e h

-- ---- implies

implied_plain : (x : Implied) → IsPlain (implied_tree x)
implied_plain not_valid = refl
implied_plain (valid p q) = two_plain valid_object (wrapped_pattern p) (wrapped_pattern q) (λ d e h k. rw (h, k) refl) (wrapped_is_plain p) (wrapped_is_plain q)

pub implied_exact : (x : Implied) (d : Data) (id : RequestId) (text : List ℕ) → Some d ≡ implied_tree x → (has_float d ≡ false → text ≡ reply_bytes (result_reply id d))
    → Some text ≡ option_map (λ t. reply_bytes (result_reply id t)) (implied_tree x)
implied_exact x d id text e h = exact (implied_tree x) d id text (implied_plain x) e h

-- ---- simplify and add-module

pub simplified_exact : (p : KorePattern) (d : Data) (id : RequestId) (text : List ℕ) → Some d ≡ simplified_tree p → (has_float d ≡ false → text ≡ reply_bytes (result_reply id d))
    → Some text ≡ option_map (λ t. reply_bytes (result_reply id t)) (simplified_tree p)
simplified_exact p d id text e h = exact (simplified_tree p) d id text (object_plain (with_pattern (codes "state") p no_members) (pattern_plain (codes "state") p no_members refl)) e h

pub added_exact : (name : Text) (d : Data) (id : RequestId) (text : List ℕ) → d ≡ added_tree name → (has_float d ≡ false → text ≡ reply_bytes (result_reply id d))
    → text ≡ reply_bytes (result_reply id (added_tree name))
added_exact name d id text e h = h (ap has_float e) ∙ ap (λ t. reply_bytes (result_reply id t)) e

-- ---- failures

limit_plain : (l : Limit) → has_float (limit_tree l) ≡ false
limit_plain (weighed w n) = refl
limit_plain (wide_call first second symbol) = refl

with_limit_plain : (l : Option Limit) (o : Members) → members_have_float o ≡ false → members_have_float (with_limit l o) ≡ false
with_limit_plain None o m = m
with_limit_plain (Some l) o m = put_plain (codes "limit") (limit_tree l) o (limit_plain l) m

undecided_plain : (u : Undecided) → IsPlain (undecided_data u)
undecided_plain (predicate p l) =
    object_plain (with_pattern (codes "unknown-predicate") p (with_limit l no_members)) (pattern_plain (codes "unknown-predicate") p (with_limit l no_members) (with_limit_plain l no_members refl))
undecided_plain (limit l) = rw (limit_plain l) refl

data_plain : (f : Failure) → IsPlain (failure_data f)
data_plain (bad_sides (not_in_a_term name)) = refl
data_plain (bad_sides not_one_term) = refl
data_plain (bad_sides (two_meanings name)) = refl
data_plain (undecided u) = undecided_plain u
data_plain (bad_module (bad_text at kind)) = refl
data_plain (bad_module (unknown_import name)) = refl
data_plain (bad_module (bad_axiom n)) = refl
data_plain (bad_module (bad_sentence n)) = refl
data_plain (bad_module full_book) = refl
data_plain (duplicate n name) = refl

pub error_plain : (f : Failure) (d : Data) → has_float d ≡ false → has_float (failure_error f d) ≡ false
error_plain f d h = rw h refl

pub failure_exact : (f : Failure) (d : Data) (make : Data → Data) (text : List ℕ) → Some d ≡ failure_data f → (has_float d ≡ false → text ≡ reply_bytes (make d))
    → Some text ≡ option_map reply_bytes (option_map make (failure_data f))
failure_exact f d make text e h = ap Some (h (plain_is (failure_data f) d (data_plain f) e)) ∙ ap (λ x. option_map reply_bytes (option_map make x)) e

-- ---- runs that are aborted by what isn't decided

with_undecided_plain : (u : Undecided) (o : Members) → members_have_float o ≡ false → MembersPlain (with_undecided u o)
with_undecided_plain (predicate p l) o m = pattern_plain (codes "unknown-predicate") p (with_limit l o) (with_limit_plain l o m)
with_undecided_plain (limit l) o m = put_plain (codes "limit") (limit_tree l) o (limit_plain l) m

aborted_members_plain : (depth : ℕ) (s : Data) → has_float s ≡ false → members_have_float (aborted_members depth s) ≡ false
aborted_members_plain depth s h =
    let o : Members = put (codes "state") s no_members in
    let r : Members = put (codes "reason") (string (codes "aborted")) o in
    put_plain (codes "depth") (number (unsigned depth)) r refl (put_plain (codes "reason") (string (codes "aborted")) o refl (put_plain (codes "state") s no_members h refl))

aborted_from_plain : (depth : ℕ) (u : Undecided) (s : Option Data) → IsPlain s → IsPlain (option_and_then (λ d. option_map object (with_undecided u (aborted_members depth d))) s)
aborted_from_plain depth u None h = tt
aborted_from_plain depth u (Some s) h = object_plain (with_undecided u (aborted_members depth s)) (with_undecided_plain u (aborted_members depth s) (aborted_members_plain depth s h))

pub aborted_exact : (depth : ℕ) (s : StateParts) (u : Undecided) (d : Data) (id : RequestId) (text : List ℕ) → Some d ≡ aborted_tree depth s u
    → (has_float d ≡ false → text ≡ reply_bytes (result_reply id d)) → Some text ≡ option_map (λ t. reply_bytes (result_reply id t)) (aborted_tree depth s u)
aborted_exact depth s u d id text e h = exact (aborted_tree depth s u) d id text (aborted_from_plain depth u (state_tree s) (state_plain s)) e h
