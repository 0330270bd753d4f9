-- What is written of a result is read as that result.
use Rattle.std.proofs.Common.{◌≡◌, ℕ, List, [], ◌∷◌, true, Option, Some, None, option_map, option_and_then, refl, sym, ap, ◌∙◌}
use Rattle.std.specs.Prelude.{ℤ, codes, pos}
use Rattle.std.specs.List.{AllByRecursion}
use Rattle.serde_json.specs.Find.{as_i64}
use Rattle.serde_json.specs.Data.{Data, array, object, Items, no_items, item, Members, no_members, put}
use Rattle.kp_kore.specs.Syntax.{Text, KorePattern}
use Rattle.kp_kore.specs.Causes.{foreign}
use Rattle.kp_kore.specs.Implied.{Implied, not_valid, valid}
use Rattle.kp_results.specs.Results.{StateParts, NextParts, Ending, vacuous, depth_bound, stuck, branching, cut_point, terminal, aborted, ExecutedParts}
use Rattle.kp_rpc.specs.Request.{RequestId}
use Rattle.kp_rpc.specs.Reply.{RequestError, parse_error, invalid_request, method_not_found, invalid_params, no_module, no_pattern, not_verified, error_parts, error_reply, result_reply}
use Rattle.kp_rpc.specs.Questions.{with_text}
use Rattle.kp_replies.specs.Written.{state_tree, next_tree, first_item, next_trees, with_nexts, executed_members, executed_tree, not_valid_object, valid_object, implied_tree, simplified_tree, added_tree}
use Rattle.kp_replies.specs.Failures.{Failure, bad_sides, undecided, bad_module, duplicate, failure_code, failure_data, failure_error, failed_reply, failure_reply}
use Rattle.kp_replies.specs.Read.{Method, execute, read_run, simplify, add_module, executed, simplified, added, failed, is_module_id, read_state, read_next, first_next, read_nexts, read_executed, read_implied, read_reply, implies, implied}
use Rattle.kp_replies.proofs.PatternsRead.{read_in, written}
use Rattle.kp_replies.specs.Replies.{IsSpelled, IsSpelledState, IsSpelledImplied, IsNamed, IsWritableNext, IsWritableEnding, IsWritable}

same : {A : Type 0} (x y : A) → Some x ≡ Some y → x ≡ y
same x y e = cc e

-- ---- states

abbrev one_state : Data → Data
one_state t = object (put (codes "term") t no_members)

abbrev two_state : Data → Data → Data
two_state p t = object (put (codes "predicate") p (put (codes "term") t no_members))

pub state_back : (term : KorePattern) (predicate : Option KorePattern) (tree : Data) → IsSpelledState term predicate → state_tree (record { term = term; predicate = predicate }) ≡ Some tree
    → read_state tree ≡ Some (record { term = term; predicate = predicate })
state_back term None tree h e =
    let t = written term h in
    let made : state_tree (record { term = term; predicate = None }) ≡ Some (one_state t.tree) = rw t.is refl in
    let read : read_state (one_state t.tree) ≡ Some (record { term = term; predicate = None }) = rw (read_in t.tree term t.spells) refl in
    ap read_state (sym (same (one_state t.tree) tree (sym made ∙ e))) ∙ read
state_back term (Some q) tree (h, k) e =
    let t = written term h in
    let p = written q k in
    let made : state_tree (record { term = term; predicate = Some q }) ≡ Some (two_state p.tree t.tree) = rw (t.is, p.is) refl in
    let read : read_state (two_state p.tree t.tree) ≡ Some (record { term = term; predicate = Some q }) = rw (read_in t.tree term t.spells, read_in p.tree q p.spells) refl in
    ap read_state (sym (same (two_state p.tree t.tree) tree (sym made ∙ e))) ∙ read

-- ---- next states

abbrev next_object : Option Text → Data → Option Data → Data → Data
next_object rule w None t = object (put (codes "rule-predicate") w (put (codes "term") t (with_text (codes "rule-id") rule no_members)))
next_object rule w (Some p) t = object (put (codes "rule-predicate") w (put (codes "predicate") p (put (codes "term") t (with_text (codes "rule-id") rule no_members))))

next_back : (rule : Option Text) (when : KorePattern) (term : KorePattern) (predicate : Option KorePattern) (tree : Data) → IsNamed rule → IsSpelled when → IsSpelledState term predicate
    → next_tree (record { rule = rule; predicate = when; state = record { term = term; predicate = predicate } }) ≡ Some tree
    → read_next tree ≡ Some (record { rule = rule; predicate = when; state = record { term = term; predicate = predicate } })
next_back None when term None tree n g h e =
    let w = written when g in
    let t = written term h in
    let made : next_tree (record { rule = None; predicate = when; state = record { term = term; predicate = None } }) ≡ Some (next_object None w.tree None t.tree) = rw (t.is, w.is) refl in
    let read : read_next (next_object None w.tree None t.tree) ≡ Some (record { rule = None; predicate = when; state = record { term = term; predicate = None } }) =
    rw (read_in w.tree when w.spells, read_in t.tree term t.spells) refl in
    ap read_next (sym (same (next_object None w.tree None t.tree) tree (sym made ∙ e))) ∙ read
next_back None when term (Some q) tree n g (h, k) e =
    let w = written when g in
    let t = written term h in
    let p = written q k in
    let made : next_tree (record { rule = None; predicate = when; state = record { term = term; predicate = Some q } }) ≡ Some (next_object None w.tree (Some p.tree) t.tree) = rw (t.is, p.is, w.is) refl in
    let read : read_next (next_object None w.tree (Some p.tree) t.tree) ≡ Some (record { rule = None; predicate = when; state = record { term = term; predicate = Some q } }) =
    rw (read_in w.tree when w.spells, read_in t.tree term t.spells, read_in p.tree q p.spells) refl in
    ap read_next (sym (same (next_object None w.tree (Some p.tree) t.tree) tree (sym made ∙ e))) ∙ read
next_back (Some id) when term None tree n g h e =
    let w = written when g in
    let t = written term h in
    let made : next_tree (record { rule = Some id; predicate = when; state = record { term = term; predicate = None } }) ≡ Some (next_object (Some id) w.tree None t.tree) = rw (t.is, w.is) refl in
    let read : read_next (next_object (Some id) w.tree None t.tree) ≡ Some (record { rule = Some id; predicate = when; state = record { term = term; predicate = None } }) =
    rw (n, read_in w.tree when w.spells, read_in t.tree term t.spells) refl in
    ap read_next (sym (same (next_object (Some id) w.tree None t.tree) tree (sym made ∙ e))) ∙ read
next_back (Some id) when term (Some q) tree n g (h, k) e =
    let w = written when g in
    let t = written term h in
    let p = written q k in
    let made : next_tree (record { rule = Some id; predicate = when; state = record { term = term; predicate = Some q } }) ≡ Some (next_object (Some id) w.tree (Some p.tree) t.tree) = rw (t.is, p.is, w.is) refl in
    let read : read_next (next_object (Some id) w.tree (Some p.tree) t.tree) ≡ Some (record { rule = Some id; predicate = when; state = record { term = term; predicate = Some q } }) =
    rw (n, read_in w.tree when w.spells, read_in t.tree term t.spells, read_in p.tree q p.spells) refl in
    ap read_next (sym (same (next_object (Some id) w.tree (Some p.tree) t.tree) tree (sym made ∙ e))) ∙ read

first_is : (x : Option Data) (y : Option Items) (ds : Items) → first_item x y ≡ Some ds → (d : Data) × (es : Items) × (x ≡ Some d) × (y ≡ Some es) × (ds ≡ item d es)
first_is None y ds e = absurd (cc e)
first_is (Some d) None ds e = absurd (cc e)
first_is (Some d) (Some es) ds e = (d, es, refl, refl, sym (same (item d es) ds e))

nexts_back : (ns : List NextParts) (ds : Items) → AllByRecursion IsWritableNext ns → next_trees ns ≡ Some ds → read_nexts ds ≡ Some ns
nexts_back [] ds h e = ap read_nexts (sym (same no_items ds e))
nexts_back (n ∷ ns) ds (h, k) e =
    let f = first_is (next_tree n) (next_trees ns) ds e in
    let first : read_next f.0 ≡ Some n = next_back n.rule n.predicate n.state.term n.state.predicate f.0 h.rule h.predicate h.state f.2 in
    let rest : read_nexts f.1 ≡ Some ns = nexts_back ns f.1 k f.3 in
    ap read_nexts f.4 ∙ ap (λ x. first_next x (read_nexts f.1)) first ∙ ap (first_next (Some n)) rest

-- ---- execute

state_is : (x : ExecutedParts) (y : Option Data) (tree : Data) → option_and_then (λ s. option_map object (with_nexts x.ending x.nexts (executed_members x.depth x.ending s))) y ≡ Some tree
    → (s : Data) × (y ≡ Some s) × (option_map object (with_nexts x.ending x.nexts (executed_members x.depth x.ending s)) ≡ Some tree)
state_is x None tree e = absurd (cc e)
state_is x (Some s) tree e = (s, refl, e)

pub items_are : (x : Option Items) (o : Members) (tree : Data) → option_map object (option_map (λ ds. put (codes "next-states") (array ds) o) x) ≡ Some tree → (ds : Items) × (x ≡ Some ds) × (object (put (codes "next-states") (array ds) o) ≡ tree)
items_are None o tree e = absurd (cc e)
items_are (Some ds) o tree e = (ds, refl, same (object (put (codes "next-states") (array ds) o)) tree e)

abbrev result : ℕ → Ending → StateParts → List NextParts → ExecutedParts
result n e s ns = record { depth = n; ending = e; state = s; nexts = ns }

-- a result without next states, from its state's tree
plain_back : (n : ℕ) (e : Ending) (s : StateParts) (ns : List NextParts) (d tree : Data) → ns ≡ [] → object (executed_members n e d) ≡ tree → read_executed (object (executed_members n e d)) ≡ Some (result n e s [])
    → read_executed tree ≡ Some (result n e s ns)
plain_back n e s ns d tree none made read = ap read_executed (sym made) ∙ read ∙ ap (λ l. Some (result n e s l)) (sym none)

ending_back : (n : ℕ) (e : Ending) (s : StateParts) (ns : List NextParts) (d tree : Data) → read_state d ≡ Some s → IsWritableEnding e ns
    → option_map object (with_nexts e ns (executed_members n e d)) ≡ Some tree → read_executed tree ≡ Some (result n e s ns)
ending_back n vacuous s ns d tree h w e = plain_back n vacuous s ns d tree w (same (object (executed_members n vacuous d)) tree e) (rw h refl)
ending_back n depth_bound s ns d tree h w e = plain_back n depth_bound s ns d tree w (same (object (executed_members n depth_bound d)) tree e) (rw h refl)
ending_back n stuck s ns d tree h w e = plain_back n stuck s ns d tree w (same (object (executed_members n stuck d)) tree e) (rw h refl)
ending_back n branching s ns d tree h w e =
    let i = items_are (next_trees ns) (executed_members n branching d) tree e in
    let read : read_executed (object (put (codes "next-states") (array i.0) (executed_members n branching d))) ≡ Some (result n branching s ns) = rw (h, nexts_back ns i.0 w i.1) refl in
    ap read_executed (sym i.2) ∙ read
ending_back n (cut_point id) s ns d tree h (lawful, (m, one, wm)) e =
    let i = items_are (next_trees ns) (executed_members n (cut_point id) d) tree e in
    let back : read_nexts i.0 ≡ Some (m ∷ []) = nexts_back (m ∷ []) i.0 (wm, tt) (ap next_trees (sym one) ∙ i.1) in
    let read : read_executed (object (put (codes "next-states") (array i.0) (executed_members n (cut_point id) d))) ≡ Some (result n (cut_point id) s (m ∷ [])) = rw (h, lawful, back) refl in
    ap read_executed (sym i.2) ∙ read ∙ ap (λ l. Some (result n (cut_point id) s l)) (sym one)
ending_back n (terminal id) s ns d tree h (lawful, none) e = plain_back n (terminal id) s ns d tree none (same (object (executed_members n (terminal id) d)) tree e) (rw (h, lawful) refl)
ending_back n (aborted (foreign id)) s ns d tree h (lawful, none) e =
    plain_back n (aborted (foreign id)) s ns d tree none (same (object (executed_members n (aborted (foreign id)) d)) tree e) (rw (h, lawful) refl)

executed_back : (x : ExecutedParts) (tree : Data) → IsWritable x → executed_tree x ≡ Some tree → read_executed tree ≡ Some x
executed_back x tree w e =
    let s = state_is x (state_tree x.state) tree e in
    ending_back x.depth x.ending x.state x.nexts s.0 tree (state_back x.state.term x.state.predicate s.0 w.state s.1) w.ending s.2

pub executed_read_back : (id : RequestId) (x : ExecutedParts) (tree : Data) → IsWritable x → executed_tree x ≡ Some tree → read_reply execute (result_reply id tree) ≡ Some (executed x)
executed_read_back id x tree w e = ap (λ y. read_run y tree) (executed_back x tree w e)

-- ---- implies

implied_made : (x : Implied) (tree : Data) → IsSpelledImplied x → implied_tree x ≡ Some tree → read_implied tree ≡ Some x
implied_made not_valid tree h e = ap read_implied (sym (same not_valid_object tree e))
implied_made (valid p q) tree (h, k) e =
    let a = written p h in
    let b = written q k in
    let made : implied_tree (valid p q) ≡ Some (valid_object a.tree b.tree) = rw (a.is, b.is) refl in
    let read : read_implied (valid_object a.tree b.tree) ≡ Some (valid p q) = rw (read_in a.tree p a.spells, read_in b.tree q b.spells) refl in
    ap read_implied (sym (same (valid_object a.tree b.tree) tree (sym made ∙ e))) ∙ read

pub implied_read_back : (id : RequestId) (x : Implied) (tree : Data) → IsSpelledImplied x → implied_tree x ≡ Some tree → read_reply implies (result_reply id tree) ≡ Some (implied x)
implied_read_back id x tree h e = ap (option_map implied) (implied_made x tree h e)

-- ---- simplify, add-module and failures

pub simplified_read_back : (id : RequestId) (p : KorePattern) (tree : Data) → IsSpelled p → simplified_tree p ≡ Some tree → read_reply simplify (result_reply id tree) ≡ Some (simplified p)
simplified_read_back id p tree h e =
    let w = written p h in
    let made : simplified_tree p ≡ Some (object (put (codes "state") w.tree no_members)) = rw w.is refl in
    let read : read_reply simplify (result_reply id (object (put (codes "state") w.tree no_members))) ≡ Some (simplified p) = rw (read_in w.tree p w.spells) refl in
    ap (λ d. read_reply simplify (result_reply id d)) (sym (same (object (put (codes "state") w.tree no_members)) tree (sym made ∙ e))) ∙ read

pub added_read_back : (id : RequestId) (name : Text) → is_module_id name ≡ true → read_reply add_module (result_reply id (added_tree name)) ≡ Some (added name)
added_read_back id name h = rw h refl

some_data : (make : Data → Data) (x : Option Data) (tree : Data) → option_map make x ≡ Some tree → (d : Data) × (make d ≡ tree)
some_data make None tree e = absurd (cc e)
some_data make (Some d) tree e = (d, same (make d) tree e)

code_back : (method : Method) (id : RequestId) (f : Failure) (d : Data) → read_reply method (failed_reply id (failure_error f d)) ≡ Some (failed (pos (failure_code f)))
code_back method id (bad_sides f) d = refl
code_back method id (undecided u) d = refl
code_back method id (bad_module f) d = refl
code_back method id (duplicate n name) d = refl

pub failure_read_back : (method : Method) (id : RequestId) (f : Failure) (tree : Data) → failure_reply id f ≡ Some tree → read_reply method tree ≡ Some (failed (pos (failure_code f)))
failure_read_back method id f tree e =
    let d = some_data (λ x. failed_reply id (failure_error f x)) (failure_data f) tree e in
    ap (read_reply method) (sym d.1) ∙ code_back method id f d.0

-- ---- errors

error_code : (method : Method) (id : RequestId) (e : RequestError) → read_reply method (error_reply id e) ≡ option_map failed (as_i64 (error_parts e).code)
error_code method id parse_error = refl
error_code method id invalid_request = refl
error_code method id method_not_found = refl
error_code method id invalid_params = refl
error_code method id (no_module name) = refl
error_code method id (no_pattern f) = refl
error_code method id (not_verified f) = refl

pub error_read_back : (method : Method) (id : RequestId) (e : RequestError) (code : ℤ) → as_i64 (error_parts e).code ≡ Some code → read_reply method (error_reply id e) ≡ Some (failed code)
error_read_back method id e code is = error_code method id e ∙ ap (option_map failed) is

pub error_has_code : (e : RequestError) → (code : ℤ) × (as_i64 (error_parts e).code ≡ Some code)
error_has_code parse_error = (_, refl)
error_has_code invalid_request = (_, refl)
error_has_code method_not_found = (_, refl)
error_has_code invalid_params = (_, refl)
error_has_code (no_module name) = (_, refl)
error_has_code (no_pattern f) = (_, refl)
error_has_code (not_verified f) = (_, refl)
