-- What is read of the tree of a result, with its predicate and its next states, is that result alone.
use Rattle.std.proofs.Common.{◌≡◌, ℕ, List, [], ◌∷◌, Bool, true, false, Option, Some, None, option_map, option_and_then, refl, sym, ap, ap₂, ◌∙◌}
use Rattle.std.specs.Prelude.{if◌then◌else◌, codes}
use Rattle.serde_json.specs.Data.{Data, array, object, Items, no_items, item, Members, no_members, put}
use Rattle.kp_kore.specs.Syntax.{Text, KorePattern}
use Rattle.kp_kore.specs.Causes.{foreign}
use Rattle.kp_json.specs.Faults.{wrapped_reading}
use Rattle.kp_json.specs.Written.{wrapped_pattern}
use Rattle.kp_rpc.specs.Questions.{with_text}
use Rattle.kp_results.specs.Results.{StateParts, NextParts, Ending, vacuous, depth_bound, stuck, branching, cut_point, terminal, aborted, ExecutedParts}
use Rattle.kp_replies.specs.Read.{pattern_in, is_rule_id, if_rule_id, state_from, read_state, next_from, read_next, first_next, read_nexts, one_alone, nexts_of, executed_from, read_executed, read_implied}
use Rattle.kp_replies.specs.Replies.{StandWith}
use Rattle.kp_replies.specs.Written.{state_tree, next_tree, first_item, next_trees, with_nexts, executed_members, executed_tree}
use Rattle.kp_replies.proofs.PatternsRead.{only_in}
use Rattle.kp_replies.proofs.Back.{items_are}
use Rattle.kp_replies.proofs.Methods.{RunParts}

same : {A : Type 0} (x y : A) → Some x ≡ Some y → x ≡ y
same x y e = cc e

-- ---- trees

-- the pattern that is read of a tree
abbrev found : Data → Option KorePattern
found t = pattern_in (wrapped_reading t)

-- members with a tree more, where there is one
abbrev more : Text → Option Data → Members → Option Members
more key x o = option_map (λ d. put key d o) x

abbrev one_state : Data → Data
one_state t = object (put (codes "term") t no_members)

abbrev two_state : Data → Data → Data
two_state p t = object (put (codes "predicate") p (put (codes "term") t no_members))

one_made : (x : Option Data) (d : Data) → option_map object (option_and_then (λ o. Some o) (more (codes "term") x no_members)) ≡ Some d → (t : Data) × (x ≡ Some t) × (one_state t ≡ d)
one_made None d e = absurd (cc e)
one_made (Some t) d e = (t, refl, same (one_state t) d e)

two_made : (x y : Option Data) (d : Data) → option_map object (option_and_then (more (codes "predicate") y) (more (codes "term") x no_members)) ≡ Some d
    → (t : Data) × (p : Data) × (x ≡ Some t) × (y ≡ Some p) × (two_state p t ≡ d)
two_made None y d e = absurd (cc e)
two_made (Some t) None d e = absurd (cc e)
two_made (Some t) (Some p) d e = (t, p, refl, refl, same (two_state p t) d e)

-- ---- states

record StateFound (x : Option KorePattern) (y : Option (Option KorePattern)) (s : StateParts) : Type 0 where
  term : x ≡ Some s.term
  predicate : y ≡ Some s.predicate

state_found : (x : Option KorePattern) (y : Option (Option KorePattern)) (s : StateParts) → state_from x y ≡ Some s → StateFound x y s
state_found None y s e = absurd (cc e)
state_found (Some t) None s e = absurd (cc e)
state_found (Some t) (Some p) s e =
    let is : record { term = t; predicate = p } ≡ s = same (record { term = t; predicate = p }) s e in
    record { term = ap (λ z. Some z.term) is; predicate = ap (λ z. Some z.predicate) is }

abbrev state_of : KorePattern → Option KorePattern → StateParts
state_of t p = record { term = t; predicate = p }

-- the predicate that is read of its tree
some_found : (x : Option KorePattern) (y : Option KorePattern) (q : KorePattern) → ((k : KorePattern) → x ≡ Some k → k ≡ q) → option_map Some x ≡ Some y → y ≡ Some q
some_found None y q only e = absurd (cc e)
some_found (Some k) y q only e = sym (same (Some k) y e) ∙ ap Some (only k refl)

pub state_only : (term : KorePattern) (predicate : Option KorePattern) (d : Data) (s : StateParts) → state_tree (record { term = term; predicate = predicate }) ≡ Some d
    → read_state d ≡ Some s → s ≡ record { term = term; predicate = predicate }
state_only term None d s made read =
    let m = one_made (wrapped_pattern term) d made in
    let f = state_found (found m.0) (Some None) s (ap read_state m.2 ∙ read) in
    ap₂ state_of (only_in term s.term m.0 m.1 f.term) (sym (same None s.predicate f.predicate))
state_only term (Some q) d s made read =
    let m = two_made (wrapped_pattern term) (wrapped_pattern q) d made in
    let f = state_found (found m.0) (option_map Some (found m.1)) s (ap read_state m.4 ∙ read) in
    ap₂ state_of (only_in term s.term m.0 m.2 f.term) (some_found (found m.1) s.predicate q (λ k. only_in q k m.1 m.3) f.predicate)

-- ---- next states

abbrev one_next : Option Text → Data → Data → Data
one_next rule w t = object (put (codes "rule-predicate") w (put (codes "term") t (with_text (codes "rule-id") rule no_members)))

abbrev two_next : Option Text → Data → Data → Data → Data
two_next rule w p t = object (put (codes "rule-predicate") w (put (codes "predicate") p (put (codes "term") t (with_text (codes "rule-id") rule no_members))))

one_next_made : (rule : Option Text) (x z : Option Data) (d : Data) → option_map object (option_and_then (more (codes "rule-predicate") z) (option_and_then (λ o. Some o) (more (codes "term") x (with_text (codes "rule-id") rule no_members)))) ≡ Some d
    → (t : Data) × (w : Data) × (x ≡ Some t) × (z ≡ Some w) × (one_next rule w t ≡ d)
one_next_made rule None z d e = absurd (cc e)
one_next_made rule (Some t) None d e = absurd (cc e)
one_next_made rule (Some t) (Some w) d e = (t, w, refl, refl, same (one_next rule w t) d e)

two_next_made : (rule : Option Text) (x y z : Option Data) (d : Data)
    → option_map object (option_and_then (more (codes "rule-predicate") z) (option_and_then (more (codes "predicate") y) (more (codes "term") x (with_text (codes "rule-id") rule no_members)))) ≡ Some d
    → (t : Data) × (p : Data) × (w : Data) × (x ≡ Some t) × (y ≡ Some p) × (z ≡ Some w) × (two_next rule w p t ≡ d)
two_next_made rule None y z d e = absurd (cc e)
two_next_made rule (Some t) None z d e = absurd (cc e)
two_next_made rule (Some t) (Some p) None d e = absurd (cc e)
two_next_made rule (Some t) (Some p) (Some w) d e = (t, p, w, refl, refl, refl, same (two_next rule w p t) d e)

-- what is read of the member "rule-id"
abbrev rule_of : Option Text → Option (Option Text)
rule_of None = Some None
rule_of (Some id) = option_map Some (if_rule_id id)

one_next_read : (rule : Option Text) (w t : Data) → read_next (one_next rule w t) ≡ next_from (rule_of rule) (found w) (state_from (found t) (Some None))
one_next_read None w t = refl
one_next_read (Some id) w t = refl

two_next_read : (rule : Option Text) (w p t : Data) → read_next (two_next rule w p t) ≡ next_from (rule_of rule) (found w) (state_from (found t) (option_map Some (found p)))
two_next_read None w p t = refl
two_next_read (Some id) w p t = refl

record NextFound (rule : Option (Option Text)) (predicate : Option KorePattern) (state : Option StateParts) (n : NextParts) : Type 0 where
  rule_is : rule ≡ Some n.rule
  predicate_is : predicate ≡ Some n.predicate
  state_is : state ≡ Some n.state

next_found : (rule : Option (Option Text)) (predicate : Option KorePattern) (state : Option StateParts) (n : NextParts) → next_from rule predicate state ≡ Some n → NextFound rule predicate state n
next_found None p s n e = absurd (cc e)
next_found (Some r) None s n e = absurd (cc e)
next_found (Some r) (Some p) None n e = absurd (cc e)
next_found (Some r) (Some p) (Some s) n e =
    let is : record { rule = r; predicate = p; state = s } ≡ n = same (record { rule = r; predicate = p; state = s }) n e in
    record { rule_is = ap (λ z. Some z.rule) is; predicate_is = ap (λ z. Some z.predicate) is; state_is = ap (λ z. Some z.state) is }

id_found : (id : Text) (b : Bool) (r : Option Text) → option_map Some (if b then Some id else None) ≡ Some r → r ≡ Some id
id_found id true r e = sym (same (Some id) r e)
id_found id false r e = absurd (cc e)

rule_only : (rule r : Option Text) → rule_of rule ≡ Some r → r ≡ rule
rule_only None r e = sym (same None r e)
rule_only (Some id) r e = id_found id (is_rule_id id) r e

next_is : (n : NextParts) (rule : Option Text) (when : KorePattern) (s : StateParts) → n.rule ≡ rule → n.predicate ≡ when → n.state ≡ s → n ≡ record { rule = rule; predicate = when; state = s }
next_is n rule when s a b c = rw (sym a, sym b, sym c) refl

next_only : (rule : Option Text) (when term : KorePattern) (predicate : Option KorePattern) (d : Data) (n : NextParts)
    → next_tree (record { rule = rule; predicate = when; state = record { term = term; predicate = predicate } }) ≡ Some d → read_next d ≡ Some n
    → n ≡ record { rule = rule; predicate = when; state = record { term = term; predicate = predicate } }
next_only rule when term None d n made read =
    let m = one_next_made rule (wrapped_pattern term) (wrapped_pattern when) d made in
    let f = next_found (rule_of rule) (found m.1) (state_from (found m.0) (Some None)) n (sym (one_next_read rule m.1 m.0) ∙ (ap read_next m.4 ∙ read)) in
    let g = state_found (found m.0) (Some None) n.state f.state_is in
    next_is n rule when (state_of term None) (rule_only rule n.rule f.rule_is) (only_in when n.predicate m.1 m.3 f.predicate_is)
    (ap₂ state_of (only_in term n.state.term m.0 m.2 g.term) (sym (same None n.state.predicate g.predicate)))
next_only rule when term (Some q) d n made read =
    let m = two_next_made rule (wrapped_pattern term) (wrapped_pattern q) (wrapped_pattern when) d made in
    let f = next_found (rule_of rule) (found m.2) (state_from (found m.0) (option_map Some (found m.1))) n (sym (two_next_read rule m.2 m.1 m.0) ∙ (ap read_next m.6 ∙ read)) in
    let g = state_found (found m.0) (option_map Some (found m.1)) n.state f.state_is in
    next_is n rule when (state_of term (Some q)) (rule_only rule n.rule f.rule_is) (only_in when n.predicate m.2 m.5 f.predicate_is)
    (ap₂ state_of (only_in term n.state.term m.0 m.3 g.term) (some_found (found m.1) n.state.predicate q (λ k. only_in q k m.1 m.4) g.predicate))

first_made : (x : Option Data) (y : Option Items) (ds : Items) → first_item x y ≡ Some ds → (d : Data) × (es : Items) × (x ≡ Some d) × (y ≡ Some es) × (item d es ≡ ds)
first_made None y ds e = absurd (cc e)
first_made (Some d) None ds e = absurd (cc e)
first_made (Some d) (Some es) ds e = (d, es, refl, refl, same (item d es) ds e)

first_found : (x : Option NextParts) (y : Option (List NextParts)) (ns : List NextParts) → first_next x y ≡ Some ns → (n : NextParts) × (ms : List NextParts) × (x ≡ Some n) × (y ≡ Some ms) × (n ∷ ms ≡ ns)
first_found None y ns e = absurd (cc e)
first_found (Some n) None ns e = absurd (cc e)
first_found (Some n) (Some ms) ns e = (n, ms, refl, refl, same (n ∷ ms) ns e)

nexts_only : (ns : List NextParts) (ds : Items) (ms : List NextParts) → next_trees ns ≡ Some ds → read_nexts ds ≡ Some ms → ms ≡ ns
nexts_only [] ds ms made read = sym (same [] ms (ap read_nexts (same no_items ds made) ∙ read))
nexts_only (n ∷ ns) ds ms made read =
    let m = first_made (next_tree n) (next_trees ns) ds made in
    let f = first_found (read_next m.0) (read_nexts m.1) ms (ap read_nexts m.4 ∙ read) in
    let first : f.0 ≡ n = next_only n.rule n.predicate n.state.term n.state.predicate m.0 f.0 m.2 f.2 in
    sym f.4 ∙ (ap (λ z. z ∷ f.1) first ∙ ap (λ l. n ∷ l) (nexts_only ns m.1 f.1 m.3 f.3))

-- ---- results

mapped : {A B : Type 0} (f : A → B) (x : Option A) (b : B) → option_map f x ≡ Some b → (a : A) × (x ≡ Some a) × (f a ≡ b)
mapped f None b e = absurd (cc e)
mapped f (Some a) b e = (a, refl, cc e)

run_found : (depth : Option ℕ) (state : Option StateParts) (ending : Option Ending) (nexts : Ending → Option (List NextParts)) (x : ExecutedParts) → executed_from depth state ending nexts ≡ Some x
    → RunParts depth state ending nexts x
run_found None s e ns x h = absurd (cc h)
run_found (Some n) None e ns x h = absurd (cc h)
run_found (Some n) (Some s) None ns x h = absurd (cc h)
run_found (Some n) (Some s) (Some e) ns x h =
    let m = mapped (λ l. record { depth = n; ending = e; state = s; nexts = l }) (ns e) x h in
    record {
      depth_is = ap (λ y. Some y.depth) m.2;
      state_is = ap (λ y. Some y.state) m.2;
      ending_is = ap (λ y. Some y.ending) m.2;
      nexts_are = ap (λ y. ns y.ending) (sym m.2) ∙ (m.1 ∙ ap (λ y. Some y.nexts) m.2);
    }

-- what is read of the members of the ending
abbrev ending_of : Ending → Option Ending
ending_of (cut_point id) = option_map cut_point (if_rule_id id)
ending_of (terminal id) = option_map terminal (if_rule_id id)
ending_of (aborted (foreign id)) = option_map (λ i. aborted (foreign i)) (if_rule_id id)
ending_of e = Some e

named_only : (make : Text → Ending) (id : Text) (b : Bool) (e : Ending) → option_map make (if b then Some id else None) ≡ Some e → e ≡ make id
named_only make id true e h = sym (same (make id) e h)
named_only make id false e h = absurd (cc h)

ending_only : (e f : Ending) → ending_of e ≡ Some f → f ≡ e
ending_only vacuous f h = sym (same vacuous f h)
ending_only depth_bound f h = sym (same depth_bound f h)
ending_only stuck f h = sym (same stuck f h)
ending_only branching f h = sym (same branching f h)
ending_only (cut_point id) f h = named_only cut_point id (is_rule_id id) f h
ending_only (terminal id) f h = named_only terminal id (is_rule_id id) f h
ending_only (aborted (foreign id)) f h = named_only (λ i. aborted (foreign i)) id (is_rule_id id) f h

-- the tree of a result, from that of its state and those of its next states
abbrev plain_tree : ℕ → Ending → Data → Data
plain_tree n e d = object (executed_members n e d)

abbrev tree_with : ℕ → Ending → Data → Items → Data
tree_with n e d ds = object (put (codes "next-states") (array ds) (executed_members n e d))

abbrev result : ℕ → Ending → StateParts → List NextParts → ExecutedParts
result n e s ns = record { depth = n; ending = e; state = s; nexts = ns }

whole : (x : ExecutedParts) (n : ℕ) (e : Ending) (s : StateParts) (ns : List NextParts) → x.depth ≡ n → x.ending ≡ e → x.state ≡ s → x.nexts ≡ ns → x ≡ result n e s ns
whole x n e s ns a b c d = rw (sym a, sym b, sym c, sym d) refl

-- from what is read of the tree of its state
parts_only : (x : ExecutedParts) (n : ℕ) (e : Ending) (s : StateParts) (ns : List NextParts) (d : Data) (nexts : Ending → Option (List NextParts)) → ((z : StateParts) → read_state d ≡ Some z → z ≡ s)
    → ((ms : List NextParts) → nexts e ≡ Some ms → ms ≡ ns) → executed_from (Some n) (read_state d) (ending_of e) nexts ≡ Some x → x ≡ result n e s ns
parts_only x n e s ns d nexts state later h =
    let f = run_found (Some n) (read_state d) (ending_of e) nexts x h in
    let is : x.ending ≡ e = ending_only e x.ending f.ending_is in
    whole x n e s ns (sym (same n x.depth f.depth_is)) is (state x.state f.state_is) (later x.nexts (ap nexts (sym is) ∙ f.nexts_are))

none_only : (ms ns : List NextParts) → ns ≡ [] → Some [] ≡ Some ms → ms ≡ ns
none_only ms ns none e = sym (same [] ms e) ∙ sym none

-- one next state alone
one_only : (x : Option (List NextParts)) (ms ns : List NextParts) → ((l : List NextParts) → x ≡ Some l → l ≡ ns) → option_and_then one_alone x ≡ Some ms → ms ≡ ns
one_only None ms ns only e = absurd (cc e)
one_only (Some []) ms ns only e = absurd (cc e)
one_only (Some (n ∷ [])) ms ns only e = sym (same (n ∷ []) ms e) ∙ only (n ∷ []) refl
one_only (Some (n ∷ m ∷ l)) ms ns only e = absurd (cc e)

run_only : (x : ExecutedParts) (n : ℕ) (e : Ending) (s : StateParts) (ns : List NextParts) (d tree : Data) → ((z : StateParts) → read_state d ≡ Some z → z ≡ s) → StandWith e ns
    → option_map object (with_nexts e ns (executed_members n e d)) ≡ Some tree → read_executed tree ≡ Some x → x ≡ result n e s ns
run_only x n vacuous s ns d tree state stand made read =
    parts_only x n vacuous s ns d (nexts_of (plain_tree n vacuous d)) state (λ ms. none_only ms ns stand) (ap read_executed (same (plain_tree n vacuous d) tree made) ∙ read)
run_only x n depth_bound s ns d tree state stand made read =
    parts_only x n depth_bound s ns d (nexts_of (plain_tree n depth_bound d)) state (λ ms. none_only ms ns stand) (ap read_executed (same (plain_tree n depth_bound d) tree made) ∙ read)
run_only x n stuck s ns d tree state stand made read =
    parts_only x n stuck s ns d (nexts_of (plain_tree n stuck d)) state (λ ms. none_only ms ns stand) (ap read_executed (same (plain_tree n stuck d) tree made) ∙ read)
run_only x n branching s ns d tree state stand made read =
    let m = items_are (next_trees ns) (executed_members n branching d) tree made in
    parts_only x n branching s ns d (nexts_of (tree_with n branching d m.0)) state (λ ms. nexts_only ns m.0 ms m.1) (ap read_executed m.2 ∙ read)
run_only x n (cut_point id) s ns d tree state stand made read =
    let m = items_are (next_trees ns) (executed_members n (cut_point id) d) tree made in
    parts_only x n (cut_point id) s ns d (nexts_of (tree_with n (cut_point id) d m.0)) state (λ ms. one_only (read_nexts m.0) ms ns (λ l. nexts_only ns m.0 l m.1)) (ap read_executed m.2 ∙ read)
run_only x n (terminal id) s ns d tree state stand made read =
    parts_only x n (terminal id) s ns d (nexts_of (plain_tree n (terminal id) d)) state (λ ms. none_only ms ns stand) (ap read_executed (same (plain_tree n (terminal id) d) tree made) ∙ read)
run_only x n (aborted (foreign id)) s ns d tree state stand made read =
    parts_only x n (aborted (foreign id)) s ns d (nexts_of (plain_tree n (aborted (foreign id)) d)) state (λ ms. none_only ms ns stand) (ap read_executed (same (plain_tree n (aborted (foreign id)) d) tree made) ∙ read)

state_made : (x : ExecutedParts) (y : Option Data) (tree : Data) → option_and_then (λ d. option_map object (with_nexts x.ending x.nexts (executed_members x.depth x.ending d))) y ≡ Some tree
    → (d : Data) × (y ≡ Some d) × (option_map object (with_nexts x.ending x.nexts (executed_members x.depth x.ending d)) ≡ Some tree)
state_made x None tree e = absurd (cc e)
state_made x (Some d) tree e = (d, refl, e)

-- what is read of the tree of a result, if anything, is the result
pub result_only : (x y : ExecutedParts) (tree : Data) → StandWith x.ending x.nexts → executed_tree x ≡ Some tree → read_executed tree ≡ Some y → y ≡ x
result_only x y tree stand made read =
    let m = state_made x (state_tree x.state) tree made in
    run_only y x.depth x.ending x.state x.nexts m.0 tree (λ z. state_only x.state.term x.state.predicate m.0 z m.1) stand m.2 read

-- and no result of implies is read of it
no_validity : (n : ℕ) (e : Ending) (ns : List NextParts) (d tree : Data) → option_map object (with_nexts e ns (executed_members n e d)) ≡ Some tree → read_implied tree ≡ None
no_validity n vacuous ns d tree e = ap read_implied (sym (same (plain_tree n vacuous d) tree e))
no_validity n depth_bound ns d tree e = ap read_implied (sym (same (plain_tree n depth_bound d) tree e))
no_validity n stuck ns d tree e = ap read_implied (sym (same (plain_tree n stuck d) tree e))
no_validity n branching ns d tree e = ap read_implied (sym (items_are (next_trees ns) (executed_members n branching d) tree e).2)
no_validity n (cut_point id) ns d tree e = ap read_implied (sym (items_are (next_trees ns) (executed_members n (cut_point id) d) tree e).2)
no_validity n (terminal id) ns d tree e = ap read_implied (sym (same (plain_tree n (terminal id) d) tree e))
no_validity n (aborted (foreign id)) ns d tree e = ap read_implied (sym (same (plain_tree n (aborted (foreign id)) d) tree e))

pub result_is_no_implication : (x : ExecutedParts) (tree : Data) → executed_tree x ≡ Some tree → read_implied tree ≡ None
result_is_no_implication x tree made =
    let m = state_made x (state_tree x.state) tree made in
    no_validity x.depth x.ending x.nexts m.0 tree m.2
