-- The line that is written of a result tells that result alone.
use Rattle.std.proofs.Common.{◌≡◌, ℕ, ◌^◌, ◌<◌, List, Option, Some, None, option_map, option_and_then, refl, sym, ap, ◌∙◌}
use Rattle.std.specs.Prelude.{codes}
use Rattle.serde_json.specs.Data.{Data, array, object, Items, no_members, put}
use Rattle.serde_json.specs.Find.{get}
use Rattle.kp_kore.specs.Syntax.{Text, KorePattern}
use Rattle.kp_json.specs.Faults.{wrapped_reading}
use Rattle.kp_json.specs.Written.{two_parts, wrapped_pattern}
use Rattle.kp_kore.specs.Causes.{foreign}
use Rattle.kp_kore.specs.Implied.{Implied, not_valid, valid}
use Rattle.kp_rpc.specs.Request.{IsReadId}
use Rattle.kp_rpc.specs.Reply.{result_reply, reply_bytes}
use Rattle.kp_rpc.specs.Request.{RequestId}
use Rattle.kp_results.specs.Results.{StateParts, NextParts, Ending, vacuous, depth_bound, stuck, branching, cut_point, terminal, aborted, ExecutedParts}
use Rattle.kp_replies.specs.Written.{state_tree, next_trees, with_nexts, executed_members, executed_tree, not_valid_object, valid_object, implied_tree, simplified_tree}
use Rattle.kp_replies.specs.Read.{execute, implies, simplify, ServerReply, executed, UnfinishedParts, unfinished, implied, simplified, read_wrapped, pattern_in, read_executed, read_state, read_unfinished, read_run, read_implied, condition_from}
use Rattle.kp_replies.specs.Replies.{IsReplyOf, StandWith}
use Rattle.kp_replies.proofs.PatternsRead.{only_in}
use Rattle.kp_replies.proofs.ResultTrees.{result_only, result_is_no_implication}
use Rattle.kp_replies.proofs.Texts.{executed_line_read, implied_line_read, simplified_line_read}

same : {A : Type 0} (x y : A) → Some x ≡ Some y → x ≡ y
same x y e = cc e

mapped : {A B : Type 0} (f : A → B) (x : Option A) (b : B) → option_map f x ≡ Some b → (a : A) × (x ≡ Some a) × (f a ≡ b)
mapped f None b e = absurd (cc e)
mapped f (Some a) b e = (a, refl, cc e)

-- the pattern that is read of a tree
abbrev found : Data → Option KorePattern
found t = pattern_in (wrapped_reading t)

-- ---- a result of implies

both_of : (make : Data → Data → Data) (x y : Option Data) (d : Data) → two_parts make x y ≡ Some d → (a : Data) × (b : Data) × (x ≡ Some a) × (y ≡ Some b) × (make a b ≡ d)
both_of make None y d e = absurd (cc e)
both_of make (Some a) None d e = absurd (cc e)
both_of make (Some a) (Some b) d e = (a, b, refl, refl, cc e)

condition_read : (p q : KorePattern) (x y : Option KorePattern) (r : Implied) → ((k : KorePattern) → x ≡ Some k → k ≡ p) → ((k : KorePattern) → y ≡ Some k → k ≡ q) → condition_from x y ≡ Some r → r ≡ valid p q
condition_read p q None y r left right e = absurd (cc e)
condition_read p q (Some k) None r left right e = absurd (cc e)
condition_read p q (Some k) (Some l) r left right e =
    sym (same (valid k l) r e) ∙ (ap (λ z. valid z l) (left k refl) ∙ ap (valid p) (right l refl))

implication_alone : (x y : Implied) (tree : Data) → implied_tree x ≡ Some tree → read_implied tree ≡ Some y → y ≡ x
implication_alone not_valid y tree e read =
    let made : not_valid_object ≡ tree = same not_valid_object tree e in
    sym (same not_valid y (ap read_implied made ∙ read))
implication_alone (valid p q) y tree e read =
    let t = both_of valid_object (wrapped_pattern p) (wrapped_pattern q) tree e in
    let here : condition_from (found t.0) (found t.1) ≡ Some y = ap read_implied t.4 ∙ read in
    condition_read p q (found t.0) (found t.1) y (λ k. only_in p k t.0 t.2) (λ k. only_in q k t.1 t.3) here

implication_is_no_run : (x : Implied) (tree : Data) → implied_tree x ≡ Some tree → read_executed tree ≡ None
implication_is_no_run not_valid tree e = ap read_executed (sym (same not_valid_object tree e))
implication_is_no_run (valid p q) tree e =
    let t = both_of valid_object (wrapped_pattern p) (wrapped_pattern q) tree e in
    ap read_executed (sym t.4)

-- ---- a result of execute names no limit and no predicate

abbrev nothing : StateParts → Option UnfinishedParts
nothing s = None

no_state : (x : Option StateParts) → option_and_then nothing x ≡ None
no_state None = refl
no_state (Some s) = refl

branching_is_finished : (n : ℕ) (x : Option Items) (s tree : Data) → option_map object (option_map (λ ds. put (codes "next-states") (array ds) (executed_members n branching s)) x) ≡ Some tree → read_unfinished tree ≡ None
branching_is_finished n None s tree e = absurd (cc e)
branching_is_finished n (Some ds) s tree e = ap read_unfinished (sym (same _ tree e))

cut_is_finished : (n : ℕ) (id : Text) (x : Option Items) (s tree : Data) → option_map object (option_map (λ ds. put (codes "next-states") (array ds) (executed_members n (cut_point id) s)) x) ≡ Some tree → read_unfinished tree ≡ None
cut_is_finished n id None s tree e = absurd (cc e)
cut_is_finished n id (Some ds) s tree e = ap read_unfinished (sym (same _ tree e))

ending_is_finished : (n : ℕ) (e : Ending) (ns : List NextParts) (s tree : Data) → option_map object (with_nexts e ns (executed_members n e s)) ≡ Some tree → read_unfinished tree ≡ None
ending_is_finished n vacuous ns s tree e = ap read_unfinished (sym (same _ tree e))
ending_is_finished n depth_bound ns s tree e = ap read_unfinished (sym (same _ tree e))
ending_is_finished n stuck ns s tree e = ap read_unfinished (sym (same _ tree e))
ending_is_finished n branching ns s tree e = branching_is_finished n (next_trees ns) s tree e
ending_is_finished n (cut_point id) ns s tree e = cut_is_finished n id (next_trees ns) s tree e
ending_is_finished n (terminal id) ns s tree e = ap read_unfinished (sym (same _ tree e))
ending_is_finished n (aborted (foreign id)) ns s tree e = ap read_unfinished (sym (same _ tree e)) ∙ no_state (read_state s)

state_is_finished : (x : ExecutedParts) (y : Option Data) (tree : Data) → option_and_then (λ s. option_map object (with_nexts x.ending x.nexts (executed_members x.depth x.ending s))) y ≡ Some tree → read_unfinished tree ≡ None
state_is_finished x None tree e = absurd (cc e)
state_is_finished x (Some s) tree e = ending_is_finished x.depth x.ending x.nexts s tree e

pub run_is_finished : (x : ExecutedParts) (tree : Data) → executed_tree x ≡ Some tree → read_unfinished tree ≡ None
run_is_finished x tree e = state_is_finished x (state_tree x.state) tree e

implication_is_finished : (x : Implied) (tree : Data) → implied_tree x ≡ Some tree → read_unfinished tree ≡ None
implication_is_finished not_valid tree e = ap read_unfinished (sym (same not_valid_object tree e))
implication_is_finished (valid p q) tree e =
    let t = both_of valid_object (wrapped_pattern p) (wrapped_pattern q) tree e in
    ap read_unfinished (sym t.4)

-- what is told of such a tree is a run that is read of it
pub run_told : (x : Option ExecutedParts) (d : Data) (r : ServerReply) → read_unfinished d ≡ None → read_run x d ≡ Some r → (y : ExecutedParts) × (x ≡ Some y) × (executed y ≡ r)
run_told (Some y) d r decided e = (y, refl, cc e)
run_told None d r decided e =
    let none : read_run None d ≡ None = ap (option_map unfinished) decided in
    let both : None ≡ Some r = sym none ∙ e in absurd (cc both)

-- ---- lines

pub run_line_alone : (id : RequestId) (x : ExecutedParts) (tree : Data) (r : ServerReply) → IsReadId id → x.depth < 2 ^ 64 → StandWith x.ending x.nexts → executed_tree x ≡ Some tree
    → IsReplyOf execute (reply_bytes (result_reply id tree)) r → r ≡ executed x
run_line_alone id x tree r lawful fits stand e told =
    let read : read_run (read_executed tree) tree ≡ Some r = executed_line_read execute id x tree r lawful fits e told in
    let y = run_told (read_executed tree) tree r (run_is_finished x tree e) read in
    sym y.2 ∙ ap executed (result_only x y.0 tree stand e y.1)

pub run_line_no_implication : (id : RequestId) (x : ExecutedParts) (tree : Data) (r : ServerReply) → IsReadId id → x.depth < 2 ^ 64 → executed_tree x ≡ Some tree
    → IsReplyOf implies (reply_bytes (result_reply id tree)) r → ⊥
run_line_no_implication id x tree r lawful fits e told =
    let read : option_map implied (read_implied tree) ≡ Some r = executed_line_read implies id x tree r lawful fits e told in
    let y = mapped implied (read_implied tree) r read in
    let both : None ≡ Some y.0 = sym (result_is_no_implication x tree e) ∙ y.1 in
    absurd (cc both)

pub implication_line_alone : (id : RequestId) (x : Implied) (tree : Data) (r : ServerReply) → IsReadId id → implied_tree x ≡ Some tree
    → IsReplyOf implies (reply_bytes (result_reply id tree)) r → r ≡ implied x
implication_line_alone id x tree r lawful e told =
    let read : option_map implied (read_implied tree) ≡ Some r = implied_line_read implies id x tree r lawful e told in
    let y = mapped implied (read_implied tree) r read in
    sym y.2 ∙ ap implied (implication_alone x y.0 tree e y.1)

pub implication_line_no_run : (id : RequestId) (x : Implied) (tree : Data) (r : ServerReply) → IsReadId id → implied_tree x ≡ Some tree
    → IsReplyOf execute (reply_bytes (result_reply id tree)) r → ⊥
implication_line_no_run id x tree r lawful e told =
    let read : read_run (read_executed tree) tree ≡ Some r = implied_line_read execute id x tree r lawful e told in
    let y = run_told (read_executed tree) tree r (implication_is_finished x tree e) read in
    let both : None ≡ Some y.0 = sym (implication_is_no_run x tree e) ∙ y.1 in
    absurd (cc both)

-- the simplified state that is read, if anything
simplified_alone : (p q : KorePattern) (x : Option Data) (tree : Data) → wrapped_pattern p ≡ x → option_map object (option_map (λ d. put (codes "state") d no_members) x) ≡ Some tree → read_wrapped (get (codes "state") tree) ≡ Some q → q ≡ p
simplified_alone p q None tree is e read = absurd (cc e)
simplified_alone p q (Some d) tree is e read = only_in p q d is (ap (λ t. read_wrapped (get (codes "state") t)) (same (object (put (codes "state") d no_members)) tree e) ∙ read)

pub simplified_line_alone : (id : RequestId) (p : KorePattern) (tree : Data) (r : ServerReply) → IsReadId id → simplified_tree p ≡ Some tree
    → IsReplyOf simplify (reply_bytes (result_reply id tree)) r → r ≡ simplified p
simplified_line_alone id p tree r lawful e told =
    let read : option_map simplified (read_wrapped (get (codes "state") tree)) ≡ Some r = simplified_line_read id p tree r lawful e told in
    let y = mapped simplified (read_wrapped (get (codes "state") tree)) r read in
    sym y.2 ∙ ap simplified (simplified_alone p y.0 (wrapped_pattern p) tree refl e y.1)
