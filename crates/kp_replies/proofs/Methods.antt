-- A reply to a method tells a result of that method, or an error's code; a rule's id in it is that of a rule, and its
-- state is spelled.
use Rattle.std.proofs.Common.{◌≡◌, ℕ, List, [], ◌∷◌, Bool, true, false, Option, Some, None, option_map, option_and_then, refl, sym, ap, ◌∙◌, subst}
use Rattle.std.specs.Prelude.{ℤ, if◌then◌else◌, codes}
use Rattle.std.specs.Str.{bytes_eq}
use Rattle.serde_json.specs.Data.{Data}
use Rattle.serde_json.specs.Find.{get, as_i64, as_number}
use Rattle.kp_kore.specs.Syntax.{Text, KorePattern}
use Rattle.kp_json.specs.Faults.{wrapped_reading}
use Rattle.kp_kore.specs.Causes.{foreign}
use Rattle.kp_results.specs.Results.{StateParts, NextParts, Ending, vacuous, depth_bound, stuck, branching, cut_point, terminal, aborted, ExecutedParts}
use Rattle.kp_replies.specs.Read.{Method, execute, implies, simplify, add_module, ServerReply, executed, UnfinishedParts, unfinished, implied, simplified, added, failed, read_unfinished, read_run, pattern_in, read_wrapped, read_optional, text_in, is_rule_id, if_rule_id, read_rule, if_module_id, state_from, read_state, ending_named, read_ending, one_alone, read_next_states, nexts_of, executed_from, read_executed, read_implied, read_code, read_result, read_either, is_two, read_reply}
use Rattle.kp_replies.specs.Replies.{IsOfMethod, IsSpelled, IsSpelledState, StandWith, IsNamedEnding, IsReplyOf}
use Rattle.kp_replies.proofs.PatternsRead.{spelled_in}

pub present : {A B : Type 0} (f : A → Option B) (x : Option A) (b : B) → option_and_then f x ≡ Some b → (a : A) × (x ≡ Some a) × (f a ≡ Some b)
present f None b e = absurd (cc e)
present f (Some a) b e = (a, refl, e)

mapped : {A B : Type 0} (f : A → B) (x : Option A) (b : B) → option_map f x ≡ Some b → (a : A) × (x ≡ Some a) × (f a ≡ b)
mapped f None b e = absurd (cc e)
mapped f (Some a) b e = (a, refl, cc e)

-- ---- methods

code_of_method : (method : Method) (code : ℤ) → IsOfMethod method (failed code)
code_of_method execute code = tt
code_of_method implies code = tt
code_of_method simplify code = tt
code_of_method add_module code = tt

error_of_method : (method : Method) (error : Data) (r : ServerReply) → read_code error ≡ Some r → IsOfMethod method r
error_of_method method error r e =
    let c = mapped failed (option_and_then as_i64 (option_and_then as_number (get (codes "code") error))) r e in
    subst (IsOfMethod method) c.2 (code_of_method method c.0)

-- what holds under a test
pub if_holds : (b : Bool) (x : Option ServerReply) (r : ServerReply) → (if b then x else None) ≡ Some r → x ≡ Some r
if_holds true x r e = e
if_holds false x r e = absurd (cc e)

same_reply : (r s : ServerReply) → Some r ≡ Some s → r ≡ s
same_reply r s e = cc e

run_of_method : (x : Option ExecutedParts) (d : Data) (r : ServerReply) → read_run x d ≡ Some r → IsOfMethod execute r
run_of_method (Some x) d r e = subst (IsOfMethod execute) (same_reply (executed x) r e) tt
run_of_method None d r e = let u = mapped unfinished (read_unfinished d) r e in subst (IsOfMethod execute) u.2 tt

result_of_method : (method : Method) (d : Data) (r : ServerReply) → read_result method d ≡ Some r → IsOfMethod method r
result_of_method execute d r e = run_of_method (read_executed d) d r e
result_of_method implies d r e = let x = mapped implied (read_implied d) r e in subst (IsOfMethod implies) x.2 tt
result_of_method simplify d r e = let x = mapped simplified (read_wrapped (get (codes "state") d)) r e in subst (IsOfMethod simplify) x.2 tt
result_of_method add_module d r e = let x = mapped added (option_and_then if_module_id (text_in (get (codes "module") d))) r e in subst (IsOfMethod add_module) x.2 tt

either_of_method : (method : Method) (x y : Option Data) (r : ServerReply) → read_either method x y ≡ Some r → IsOfMethod method r
either_of_method method (Some error) (Some result) r e = absurd (cc e)
either_of_method method (Some error) None r e = error_of_method method error r e
either_of_method method None (Some result) r e = result_of_method method result r e
either_of_method method None None r e = absurd (cc e)

reply_of_method : (method : Method) (d : Data) (r : ServerReply) → read_reply method d ≡ Some r → IsOfMethod method r
reply_of_method method d r e =
    either_of_method method (get (codes "error") d) (get (codes "result") d) r
    (if_holds (is_two (text_in (get (codes "jsonrpc") d))) (read_either method (get (codes "error") d) (get (codes "result") d)) r e)

pub line_of_method : (method : Method) (line : List ℕ) (r : ServerReply) → IsReplyOf method line r → IsOfMethod method r
line_of_method method line r (text, is, (d, frame, tells)) = reply_of_method method d r tells

-- ---- the result of execute

one_run : (x z : ExecutedParts) → executed x ≡ executed z → x ≡ z
one_run x z e = cc e

not_unfinished : (u : UnfinishedParts) (z : ExecutedParts) → unfinished u ≡ executed z → ⊥
not_unfinished u z e = cc e

run_read : (x : Option ExecutedParts) (d : Data) (z : ExecutedParts) → read_run x d ≡ Some (executed z) → x ≡ Some z
run_read (Some x) d z e = let is : executed x ≡ executed z = same_reply (executed x) (executed z) e in ap Some (one_run x z is)
run_read None d z e = let u = mapped unfinished (read_unfinished d) (executed z) e in absurd (not_unfinished u.0 z u.2)

-- the result that is read of a reply is read of some tree
run_at : (x y : Option Data) (z : ExecutedParts) → read_either execute x y ≡ Some (executed z) → (d : Data) × (read_executed d ≡ Some z)
run_at (Some error) (Some result) z e = absurd (cc e)
run_at (Some error) None z e = let c = mapped failed (option_and_then as_i64 (option_and_then as_number (get (codes "code") error))) (executed z) e in absurd (cc c.2)
run_at None (Some result) z e =
    (result, run_read (read_executed result) result z e)
run_at None None z e = absurd (cc e)

run_of_line : (line : List ℕ) (x : ExecutedParts) → IsReplyOf execute line (executed x) → (d : Data) × (read_executed d ≡ Some x)
run_of_line line x (text, is, (d, frame, tells)) =
    run_at (get (codes "error") d) (get (codes "result") d) x
    (if_holds (is_two (text_in (get (codes "jsonrpc") d))) (read_either execute (get (codes "error") d) (get (codes "result") d)) (executed x) tells)

pub record RunParts (depth : Option ℕ) (state : Option StateParts) (ending : Option Ending) (nexts : Ending → Option (List NextParts)) (x : ExecutedParts) : Type 0 where
  pub depth_is : depth ≡ Some x.depth
  pub state_is : state ≡ Some x.state
  pub ending_is : ending ≡ Some x.ending
  pub nexts_are : nexts x.ending ≡ Some x.nexts

run_parts : (depth : Option ℕ) (state : Option StateParts) (ending : Option Ending) (nexts : Ending → Option (List NextParts)) (x : ExecutedParts) → executed_from depth state ending nexts ≡ Some x → RunParts depth state ending nexts x
run_parts None s e ns x h = absurd (cc h)
run_parts (Some n) None e ns x h = absurd (cc h)
run_parts (Some n) (Some s) None ns x h = absurd (cc h)
run_parts (Some n) (Some s) (Some e) ns x h =
    let m = mapped (λ l. record { depth = n; ending = e; state = s; nexts = l }) (ns e) x h in
    record {
      depth_is = ap (λ y. Some y.depth) m.2;
      state_is = ap (λ y. Some y.state) m.2;
      ending_is = ap (λ y. Some y.ending) m.2;
      nexts_are = ap (λ y. ns y.ending) (sym m.2) ∙ (m.1 ∙ ap (λ y. Some y.nexts) m.2);
    }

-- ---- its next states

same : {A : Type 0} (x y : A) → Some x ≡ Some y → x ≡ y
same x y e = cc e

one_is : (l ns : List NextParts) → one_alone l ≡ Some ns → (n : NextParts) × (ns ≡ n ∷ [])
one_is [] ns e = absurd (cc e)
one_is (n ∷ []) ns e = (n, sym (same (n ∷ []) ns e))
one_is (n ∷ m ∷ l) ns e = absurd (cc e)

stand : (d : Data) (e : Ending) (ns : List NextParts) → nexts_of d e ≡ Some ns → StandWith e ns
stand d vacuous ns h = sym (same [] ns h)
stand d depth_bound ns h = sym (same [] ns h)
stand d stuck ns h = sym (same [] ns h)
stand d branching ns h = tt
stand d (cut_point id) ns h = let l = present one_alone (read_next_states d) ns h in one_is l.0 ns l.2
stand d (terminal id) ns h = sym (same [] ns h)
stand d (aborted cause) ns h = sym (same [] ns h)

pub told_nexts : (line : List ℕ) (x : ExecutedParts) → IsReplyOf execute line (executed x) → StandWith x.ending x.nexts
told_nexts line x h =
    let r = run_of_line line x h in
    stand r.0 x.ending x.nexts (run_parts _ _ _ (nexts_of r.0) x r.1).nexts_are

-- ---- its rule's id

rule_if : (t id : Text) (b : Bool) → is_rule_id t ≡ b → (if b then Some t else None) ≡ Some id → is_rule_id id ≡ true
rule_if t id true is e = let same : t ≡ id = cc e in ap is_rule_id (sym same) ∙ is
rule_if t id false is e = absurd (cc e)

rule_named : (x : Option Data) (id : Text) → read_rule x ≡ Some id → is_rule_id id ≡ true
rule_named x id e = let t = present if_rule_id (text_in x) id e in rule_if t.0 id _ refl t.2

ending_if : (d : Data) (e : Ending) (s b v r c t a : Bool) →
    (if s then Some stuck else (if b then Some depth_bound else (if v then Some vacuous else (if r then Some branching else
    (if c then option_map cut_point (read_rule (get (codes "rule") d)) else (if t then option_map terminal (read_rule (get (codes "rule") d)) else
    (if a then option_map (λ id. aborted (foreign id)) (read_rule (get (codes "foreign-rule") d)) else None))))))) ≡ Some e → IsNamedEnding e
ending_if d e true b v r c t a h = let same : stuck ≡ e = cc h in subst IsNamedEnding same tt
ending_if d e false true v r c t a h = let same : depth_bound ≡ e = cc h in subst IsNamedEnding same tt
ending_if d e false false true r c t a h = let same : vacuous ≡ e = cc h in subst IsNamedEnding same tt
ending_if d e false false false true c t a h = let same : branching ≡ e = cc h in subst IsNamedEnding same tt
ending_if d e false false false false true t a h =
    let m = mapped cut_point (read_rule (get (codes "rule") d)) e h in
    subst IsNamedEnding m.2 (rule_named (get (codes "rule") d) m.0 m.1)
ending_if d e false false false false false true a h =
    let m = mapped terminal (read_rule (get (codes "rule") d)) e h in
    subst IsNamedEnding m.2 (rule_named (get (codes "rule") d) m.0 m.1)
ending_if d e false false false false false false true h =
    let m = mapped (λ id. aborted (foreign id)) (read_rule (get (codes "foreign-rule") d)) e h in
    subst IsNamedEnding m.2 (rule_named (get (codes "foreign-rule") d) m.0 m.1)
ending_if d e false false false false false false false h = absurd (cc h)

ending_read : (d : Data) (e : Ending) → read_ending d ≡ Some e → IsNamedEnding e
ending_read d e h =
    let w = present (ending_named d) (text_in (get (codes "reason") d)) e h in
    ending_if d e (bytes_eq w.0 (codes "stuck")) (bytes_eq w.0 (codes "depth-bound")) (bytes_eq w.0 (codes "vacuous")) (bytes_eq w.0 (codes "branching"))
    (bytes_eq w.0 (codes "cut-point-rule")) (bytes_eq w.0 (codes "terminal-rule")) (bytes_eq w.0 (codes "aborted")) w.2

pub told_ids : (line : List ℕ) (x : ExecutedParts) → IsReplyOf execute line (executed x) → IsNamedEnding x.ending
told_ids line x h =
    let r = run_of_line line x h in
    ending_read r.0 x.ending (run_parts _ _ _ (nexts_of r.0) x r.1).ending_is

-- ---- its state

term_read : (x : Option Data) (p : KorePattern) → read_wrapped x ≡ Some p → IsSpelled p
term_read None p e = absurd (cc e)
term_read (Some d) p e = (d, spelled_in d p e)

both_read : (x : Option Data) (term : KorePattern) (o : Option KorePattern) → IsSpelled term → read_optional x ≡ Some o → IsSpelledState term o
both_read x term None h e = h
both_read None term (Some p) h e = absurd (cc e)
both_read (Some d) term (Some p) h e =
    let m = mapped Some (pattern_in (wrapped_reading d)) (Some p) e in
    let same : m.0 ≡ p = cc m.2 in
    (h, (d, spelled_in d p (m.1 ∙ ap Some same)))

state_parts : (x y : Option Data) (s : StateParts) → state_from (read_wrapped x) (read_optional y) ≡ Some s → IsSpelledState s.term s.predicate
state_parts x y s e =
    let t = present (λ t. option_map (λ p. record { term = t; predicate = p }) (read_optional y)) (read_wrapped x) s e in
    let p = mapped (λ p. record { term = t.0; predicate = p }) (read_optional y) s t.2 in
    subst (λ (z : StateParts). IsSpelledState z.term z.predicate) p.2 (both_read y t.0 p.0 (term_read x t.0 t.1) p.1)

pub told_state : (line : List ℕ) (x : ExecutedParts) → IsReplyOf execute line (executed x) → IsSpelledState x.state.term x.state.predicate
told_state line x h =
    let r = run_of_line line x h in
    let s = present read_state (get (codes "state") r.0) x.state (run_parts _ _ _ (nexts_of r.0) x r.1).state_is in
    state_parts (get (codes "term") s.0) (get (codes "predicate") s.0) x.state s.2
