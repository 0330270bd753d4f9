-- The line of a run that is aborted by what isn't decided tells its depth, its state and the limit that alone isn't decided,
-- and no result, whatever numbers stand in it.
use Rattle.std.proofs.Common.{◌≡◌, ℕ, ◌^◌, ◌<◌, List, [], ◌∷◌, ◌++◌, false, Option, Some, None, option_map, option_and_then, decimal, refl, sym, ap, ◌∙◌, subst, inl, inr, ◌⊎◌}
use Rattle.std.specs.Prelude.{codes, ⊤}
use Rattle.json.specs.Json as json
use Rattle.json.specs.Lex.{Lexeme, token, fresh, punctuate, tokens}
use Rattle.json.specs.Print.{IsNumber, print, ArePrintable}
use Rattle.json.specs.Token.{Token, begin_object, key, string, number, null, bad}
use Rattle.json.specs.Tree.{json_tokens, HasNumbers}
use Rattle.serde_json.specs.Data as value
use Rattle.serde_json.specs.Data.{Data, unsigned, object, Members, no_members, put}
use Rattle.serde_json.specs.Find.{get}
use Rattle.serde_json.specs.Read.{read, max_depth, of_json}
use Rattle.serde_json.specs.Written.{number_text, outline, compact_text}
use Rattle.serde_json.proofs.Texts.{print-outline}
use Rattle.kp_kore.specs.Syntax.{Text, KorePattern}
use Rattle.kp_json.specs.Written.{wrapped_pattern}
use Rattle.kp_rpc.specs.Request.{RequestId, IsReadId, id_text, id_number, id_null, id_tree}
use Rattle.kp_rpc.specs.Reply.{result_reply, reply_bytes}
use Rattle.kp_rpc.proofs.ReadBack.{Back, number_back, id_back, wrapped_back, plain_back}
use Rattle.kp_results.specs.Results as results
use Rattle.kp_results.specs.Results.{StateParts, NextParts, ExecutedParts, Ending, Weight, Limit, weighed, wide_call, Undecided, predicate, limit}
use Rattle.kp_replies.specs.Aborted.{with_undecided, aborted_members, aborted_tree}
use Rattle.kp_replies.specs.Failures.{weight_name, limit_tree, with_limit}
use Rattle.kp_replies.specs.Read.{Method, execute, implies, simplify, add_module, ServerReply, UnfinishedParts, unfinished, implied, if_limit_name, text_in, read_unfinished, read_run, read_state, nexts_of, executed_from, read_executed, read_implied, read_reply}
use Rattle.kp_replies.specs.Replies.{IsReplyOf, IsSpelledState, told_name, unfinished_parts}
use Rattle.kp_replies.specs.Written.{state_tree}
use Rattle.kp_replies.proofs.Back.{state_back}
use Rattle.kp_replies.proofs.Lines.{same_front}
use Rattle.kp_replies.proofs.ResultTrees.{state_only}
use Rattle.kp_replies.proofs.Texts as texts
use Rattle.kp_replies.proofs.WideNumbers.{IsWide, decimal_kinds, lexemes, lex_up_to, read_outline, unread}

same : {A : Type 0} (x y : A) → Some x ≡ Some y → x ≡ y
same x y e = cc e

state_tree_back : (term : KorePattern) (o : Option KorePattern) (d : Data) → state_tree (record { term = term; predicate = o }) ≡ Some d → Back d
state_tree_back term o d made = plain_back (state_tree (record { term = term; predicate = o })) d (texts.state_back term o) made

-- ---- the tree, with a limit or without, and with a predicate or without

abbrev limited : Option Data → Members → Members
limited None o = o
limited (Some l) o = put (codes "limit") l o

abbrev shown : Option Data → Members → Members
shown None o = o
shown (Some q) o = put (codes "unknown-predicate") q o

-- of the depth, of the tree of the state, and of those of the limit and of the predicate
abbrev open_tree : ℕ → Data → Option Data → Option Data → Data
open_tree n d l q = object (shown q (limited l (aborted_members n d)))

abbrev limit_of : Undecided → Option Limit
limit_of (predicate p l) = l
limit_of (limit l) = Some l

-- the name in the tree of a limit, if it is that of a limit
abbrev name_in : Option Data → Option Text
name_in l = option_and_then if_limit_name (option_and_then (λ d. text_in (get (codes "name") d)) l)

-- what is told of what isn't decided, by the trees of the limit and of the predicate
abbrev told_of : Option Data → Option Data → Option (Option Text)
told_of l None = option_map Some (name_in l)
told_of l (Some q) = Some None

-- the tree that JSON makes of the text of a limit
abbrev read_limit : Option Data → Option Data
read_limit l = option_and_then (λ d. of_json (outline d)) l

weight_named : (w : Weight) → if_limit_name (weight_name w) ≡ Some (weight_name w)
weight_named results.bits = refl
weight_named results.literals = refl
weight_named results.product = refl
weight_named results.depth = refl

limit_told : (l : Limit) → told_of (Some (limit_tree l)) None ≡ Some (told_name (limit l))
limit_told (weighed w n) = ap (option_map Some) (weight_named w)
limit_told (wide_call first second symbol) = refl

-- the name stands beside a number, if that is read
weighed_read : (w : Weight) (x : Option Data) (t : Option Text)
    → told_of (option_map object (option_and_then (λ d. Some (put (codes "number") d (put (codes "name") (value.string (weight_name w)) no_members))) x)) None ≡ Some t → t ≡ Some (weight_name w)
weighed_read w None t e = absurd (cc e)
weighed_read w (Some d) t e = sym (same _ t (sym (ap (option_map Some) (weight_named w)) ∙ e))

limit_read_as : (l : Limit) (t : Option Text) → told_of (read_limit (Some (limit_tree l))) None ≡ Some t → t ≡ told_name (limit l)
limit_read_as (weighed w n) t e = weighed_read w (of_json (outline (value.number (unsigned n)))) t e
limit_read_as (wide_call first second symbol) t e = sym (same _ t e)

record Made (n : ℕ) (s : StateParts) (u : Undecided) (tree : Data) : Type 0 where
  state : Data
  state_is : state_tree s ≡ Some state
  shows : Option Data
  shows_back : (q : Data) → shows ≡ Some q → Back q
  tells : told_of (option_map limit_tree (limit_of u)) shows ≡ Some (told_name u)
  names : (t : Option Text) → told_of (read_limit (option_map limit_tree (limit_of u))) shows ≡ Some t → t ≡ told_name u
  is : open_tree n state (option_map limit_tree (limit_of u)) shows ≡ tree

predicate_made : (n : ℕ) (s : StateParts) (p : KorePattern) (l : Option Limit) (d tree : Data) (x : Option Data) → state_tree s ≡ Some d → wrapped_pattern p ≡ x
    → option_map object (option_map (λ q. put (codes "unknown-predicate") q (with_limit l (aborted_members n d))) x) ≡ Some tree → Made n s (predicate p l) tree
predicate_made n s p l d tree None state is e = absurd (cc e)
predicate_made n s p None d tree (Some q) state is e =
    record { state = d; state_is = state; shows = Some q; shows_back = λ r same_tree. subst Back (same q r same_tree) (plain_back (wrapped_pattern p) q (wrapped_back p) is); tells = refl; names = λ t told. sym (same _ t told); is = same _ tree e }
predicate_made n s p (Some l) d tree (Some q) state is e =
    record { state = d; state_is = state; shows = Some q; shows_back = λ r same_tree. subst Back (same q r same_tree) (plain_back (wrapped_pattern p) q (wrapped_back p) is); tells = refl; names = λ t told. sym (same _ t told); is = same _ tree e }

undecided_made : (n : ℕ) (s : StateParts) (u : Undecided) (d tree : Data) → state_tree s ≡ Some d → option_map object (with_undecided u (aborted_members n d)) ≡ Some tree → Made n s u tree
undecided_made n s (predicate p l) d tree state e = predicate_made n s p l d tree (wrapped_pattern p) state refl e
undecided_made n s (limit l) d tree state e = record { state = d; state_is = state; shows = None; shows_back = λ q none. absurd (cc none); tells = limit_told l; names = limit_read_as l; is = same _ tree e }

made : (n : ℕ) (s : StateParts) (u : Undecided) (tree : Data) → aborted_tree n s u ≡ Some tree → Made n s u tree
made n s u tree e = from_state (state_tree s) refl e
  where
    from_state : (x : Option Data) → state_tree s ≡ x → option_and_then (λ d. option_map object (with_undecided u (aborted_members n d))) x ≡ Some tree → Made n s u tree
    from_state None is h = absurd (cc h)
    from_state (Some d) is h = undecided_made n s u d tree is h

-- ---- what is read of such a tree

-- no result of execute, since the rule of an aborted run is missing
no_ending : (n : ℕ) (x : Option StateParts) (nexts : Ending → Option (List NextParts)) → executed_from (Some n) x None nexts ≡ None
no_ending n None nexts = refl
no_ending n (Some s) nexts = refl

no_run : (n : ℕ) (d : Data) (l q : Option Data) → read_executed (open_tree n d l q) ≡ None
no_run n d None None = no_ending n (read_state d) (nexts_of (open_tree n d None None))
no_run n d None (Some q) = no_ending n (read_state d) (nexts_of (open_tree n d None (Some q)))
no_run n d (Some l) None = no_ending n (read_state d) (nexts_of (open_tree n d (Some l) None))
no_run n d (Some l) (Some q) = no_ending n (read_state d) (nexts_of (open_tree n d (Some l) (Some q)))

-- and none of implies
no_validity : (n : ℕ) (d : Data) (l q : Option Data) → read_implied (open_tree n d l q) ≡ None
no_validity n d None None = refl
no_validity n d None (Some q) = refl
no_validity n d (Some l) None = refl
no_validity n d (Some l) (Some q) = refl

-- but a run that is aborted, as far as its state and what isn't decided are read
abbrev parts_of : ℕ → StateParts → Option Text → UnfinishedParts
parts_of n s t = record { depth = n; state = s; limit = t }

abbrev parts_with : ℕ → Option (Option Text) → StateParts → Option UnfinishedParts
parts_with n t s = option_map (parts_of n s) t

open_read : (n : ℕ) (d : Data) (l q : Option Data) → read_unfinished (open_tree n d l q) ≡ option_and_then (parts_with n (told_of l q)) (read_state d)
open_read n d None None = refl
open_read n d None (Some q) = refl
open_read n d (Some l) None = refl
open_read n d (Some l) (Some q) = refl

present : {A B : Type 0} (f : A → Option B) (x : Option A) (b : B) → option_and_then f x ≡ Some b → (a : A) × (x ≡ Some a) × (f a ≡ Some b)
present f None b e = absurd (cc e)
present f (Some a) b e = (a, refl, e)

mapped : {A B : Type 0} (f : A → B) (x : Option A) (b : B) → option_map f x ≡ Some b → (a : A) × (x ≡ Some a) × (f a ≡ b)
mapped f None b e = absurd (cc e)
mapped f (Some a) b e = (a, refl, cc e)

parts_are : (n : ℕ) (r s : StateParts) (t u : Option Text) → r ≡ s → t ≡ u → parts_of n r t ≡ parts_of n s u
parts_are n r s t u e f = rw (e, f) refl

-- what is read is what was written
parts_only : (n : ℕ) (s : StateParts) (u : Undecided) (d : Data) (l q : Option Data) (r : ServerReply) → state_tree s ≡ Some d → ((t : Option Text) → told_of l q ≡ Some t → t ≡ told_name u)
    → option_map unfinished (read_unfinished (open_tree n d l q)) ≡ Some r → r ≡ unfinished (unfinished_parts n s u)
parts_only n s u d l q r state names e =
    let m = mapped unfinished (read_unfinished (open_tree n d l q)) r e in
    let p = present (parts_with n (told_of l q)) (read_state d) m.0 (sym (open_read n d l q) ∙ m.1) in
    let t = mapped (parts_of n p.0) (told_of l q) m.0 p.2 in
    sym m.2 ∙ ap unfinished (sym t.2 ∙ parts_are n p.0 s t.0 (told_name u) (state_only s.term s.predicate d p.0 state p.1) (names t.0 t.1))

-- the two methods whose results a prover asks for
abbrev IsAsked : Method → Type 0
IsAsked execute = ⊤
IsAsked implies = ⊤
IsAsked method = ⊥

-- what a reply tells that tells no result: the parts of the run; of other methods nothing
abbrev IsLeft : Method → UnfinishedParts → ServerReply → Type 0
IsLeft execute x r = r ≡ unfinished x
IsLeft method x r = ⊥

mapped_none : {A : Type 0} (make : A → ServerReply) (x : Option A) (r : ServerReply) → x ≡ None → option_map make x ≡ Some r → ⊥
mapped_none make None r none e = absurd (cc e)
mapped_none make (Some a) r none e = absurd (cc none)

no_run_told : (x : Option ExecutedParts) (d : Data) (r : ServerReply) → x ≡ None → read_run x d ≡ Some r → option_map unfinished (read_unfinished d) ≡ Some r
no_run_told None d r none e = e
no_run_told (Some x) d r none e = absurd (cc none)

untold : (method : Method) (id : RequestId) (n : ℕ) (s : StateParts) (u : Undecided) (d : Data) (l q : Option Data) (r : ServerReply) → IsAsked method → state_tree s ≡ Some d
    → ((t : Option Text) → told_of l q ≡ Some t → t ≡ told_name u) → read_reply method (result_reply id (open_tree n d l q)) ≡ Some r → IsLeft method (unfinished_parts n s u) r
untold execute id n s u d l q r asked state names e = parts_only n s u d l q r state names (no_run_told (read_executed (open_tree n d l q)) (open_tree n d l q) r (no_run n d l q) e)
untold implies id n s u d l q r asked state names e = mapped_none implied (read_implied (open_tree n d l q)) r (no_validity n d l q) e
untold simplify id n s u d l q r asked state names e = absurd asked
untold add_module id n s u d l q r asked state names e = absurd asked

-- the tree is read as what was written, where the state is spelled
pub aborted_read_back : (id : RequestId) (n : ℕ) (s : StateParts) (u : Undecided) (tree : Data) → IsSpelledState s.term s.predicate → aborted_tree n s u ≡ Some tree
    → read_reply execute (result_reply id tree) ≡ Some (unfinished (unfinished_parts n s u))
aborted_read_back id n s u tree spelled written =
    let m = made n s u tree written in
    let l : Option Data = option_map limit_tree (limit_of u) in
    let state : read_state m.state ≡ Some s = state_back s.term s.predicate m.state spelled m.state_is in
    let parts : read_unfinished (open_tree n m.state l m.shows) ≡ Some (unfinished_parts n s u) =
    open_read n m.state l m.shows ∙ ap (option_and_then (parts_with n (told_of l m.shows))) state ∙ ap (λ t. parts_with n t s) m.tells in
    let run : read_run (read_executed (open_tree n m.state l m.shows)) (open_tree n m.state l m.shows) ≡ Some (unfinished (unfinished_parts n s u)) =
    ap (λ x. read_run x (open_tree n m.state l m.shows)) (no_run n m.state l m.shows) ∙ ap (option_map unfinished) parts in
    subst (λ t. read_reply execute (result_reply id t) ≡ Some (unfinished (unfinished_parts n s u))) m.is run

-- ---- numbers of JSON

abbrev HaveNumbers : Option Data → Type 0
HaveNumbers None = ⊤
HaveNumbers (Some l) = HasNumbers (outline l)

abbrev MayBack : Option Data → Type 0
MayBack None = ⊤
MayBack (Some q) = Back q

reply_numbers : (id : RequestId) (n : ℕ) (d : Data) (l q : Option Data) → Back (id_tree id) → Back (value.number (unsigned n)) → Back d → HaveNumbers l → MayBack q → HasNumbers (outline (result_reply id (open_tree n d l q)))
reply_numbers id n d None None i m h k g = (i.numbers, (tt, ((m.numbers, (tt, (h.numbers, tt))), tt)))
reply_numbers id n d None (Some q) i m h k g = (i.numbers, (tt, ((m.numbers, (tt, (h.numbers, (g.numbers, tt)))), tt)))
reply_numbers id n d (Some l) None i m h k g = (i.numbers, (tt, ((m.numbers, (k, (tt, (h.numbers, tt)))), tt)))
reply_numbers id n d (Some l) (Some q) i m h k g = (i.numbers, (tt, ((m.numbers, (k, (tt, (h.numbers, (g.numbers, tt))))), tt)))

-- the tree that is made of the outline, whatever the limit is read as
record IsReadOpen (id : RequestId) (n : ℕ) (d : Data) (l q : Option Data) (e : Data) : Type 0 where
  limit_read : Option Data
  from : limit_read ≡ read_limit l
  is : e ≡ result_reply id (open_tree n d limit_read q)

read_open : (id : RequestId) (n : ℕ) (d : Data) (l q : Option Data) (e : Data) → Back (id_tree id) → Back (value.number (unsigned n)) → Back d → MayBack q → of_json (outline (result_reply id (open_tree n d l q))) ≡ Some e → IsReadOpen id n d l q e
read_open id n d None None e i m h g made =
    let is : of_json (outline (result_reply id (open_tree n d None None))) ≡ Some (result_reply id (open_tree n d None None)) = rw (i.is, m.is, h.is) refl in
    record { limit_read = None; from = refl; is = same e _ (sym made ∙ is) }
read_open id n d None (Some q) e i m h g made =
    let is : of_json (outline (result_reply id (open_tree n d None (Some q)))) ≡ Some (result_reply id (open_tree n d None (Some q))) = rw (i.is, m.is, h.is, g.is) refl in
    record { limit_read = None; from = refl; is = same e _ (sym made ∙ is) }
read_open id n d (Some l) None e i m h g made = with_limit_read (of_json (outline l)) refl
  where
    with_limit_read : (x : Option Data) → of_json (outline l) ≡ x → IsReadOpen id n d (Some l) None e
    with_limit_read None k =
        let is : of_json (outline (result_reply id (open_tree n d (Some l) None))) ≡ None = rw (i.is, m.is, h.is, k) refl in
        let both : Some e ≡ None = sym made ∙ is in absurd (cc both)
    with_limit_read (Some x) k =
        let is : of_json (outline (result_reply id (open_tree n d (Some l) None))) ≡ Some (result_reply id (open_tree n d (Some x) None)) = rw (i.is, m.is, h.is, k) refl in
        record { limit_read = Some x; from = sym k; is = same e _ (sym made ∙ is) }
read_open id n d (Some l) (Some q) e i m h g made = with_limit_read (of_json (outline l)) refl
  where
    with_limit_read : (x : Option Data) → of_json (outline l) ≡ x → IsReadOpen id n d (Some l) (Some q) e
    with_limit_read None k =
        let is : of_json (outline (result_reply id (open_tree n d (Some l) (Some q)))) ≡ None = rw (i.is, m.is, h.is, g.is, k) refl in
        let both : Some e ≡ None = sym made ∙ is in absurd (cc both)
    with_limit_read (Some x) k =
        let is : of_json (outline (result_reply id (open_tree n d (Some l) (Some q)))) ≡ Some (result_reply id (open_tree n d (Some x) (Some q))) = rw (i.is, m.is, h.is, g.is, k) refl in
        record { limit_read = Some x; from = sym k; is = same e _ (sym made ∙ is) }

-- ---- a number that is none

abbrev id_token : RequestId → Token
id_token (id_text t) = string t
id_token (id_number n) = number (number_text n)
id_token id_null = null

-- the tokens before the number of a limit
abbrev front : Token → List ℕ → Text → List Token
front tok n w =
    begin_object ∷ key (codes "id") ∷ tok ∷ key (codes "jsonrpc") ∷ string (codes "2.0") ∷ key (codes "result")
    ∷ begin_object ∷ key (codes "depth") ∷ number n ∷ key (codes "limit") ∷ begin_object ∷ key (codes "name") ∷ string w ∷ key (codes "number") ∷ []

abbrev weighed_reply : RequestId → ℕ → Weight → ℕ → Data → Option Data → Data
weighed_reply id n w k d q = result_reply id (open_tree n d (Some (limit_tree (weighed w k))) q)

record StandsBehind (id : RequestId) (n : ℕ) (w : Weight) (k : ℕ) (d : Data) (q : Option Data) : Type 0 where
  post : List Token
  are : json_tokens (outline (weighed_reply id n w k d q)) ≡ front (id_token id) (decimal n) (weight_name w) ++ number (decimal k) ∷ post

stands_behind : (id : RequestId) (n : ℕ) (w : Weight) (k : ℕ) (d : Data) (q : Option Data) → StandsBehind id n w k d q
stands_behind (id_text t) n w k d None = record { post = _; are = refl }
stands_behind (id_text t) n w k d (Some q) = record { post = _; are = refl }
stands_behind (id_number i) n w k d None = record { post = _; are = refl }
stands_behind (id_number i) n w k d (Some q) = record { post = _; are = refl }
stands_behind id_null n w k d None = record { post = _; are = refl }
stands_behind id_null n w k d (Some q) = record { post = _; are = refl }

front_printable : (id : RequestId) (n : List ℕ) (w : Text) → Back (id_tree id) → IsNumber n → ArePrintable (front (id_token id) n w)
unfolding ArePrintable
front_printable (id_text t) n w i m = (tt, (tt, (tt, (tt, (tt, (tt, (tt, (tt, (m, (tt, (tt, (tt, (tt, (tt, tt))))))))))))))
front_printable (id_number x) n w i m = (tt, (tt, (i.numbers, (tt, (tt, (tt, (tt, (tt, (m, (tt, (tt, (tt, (tt, (tt, tt))))))))))))))
front_printable id_null n w i m = (tt, (tt, (tt, (tt, (tt, (tt, (tt, (tt, (m, (tt, (tt, (tt, (tt, (tt, tt))))))))))))))

front_stops : (id : RequestId) (n : List ℕ) (w : Text) (ls : List Lexeme) → punctuate fresh (lexemes false (front (id_token id) n w) ++ token bad ∷ ls) ≡ front (id_token id) n w ++ bad ∷ []
unfolding punctuate
front_stops (id_text t) n w ls = refl
front_stops (id_number x) n w ls = refl
front_stops id_null n w ls = refl

front_unread : (id : RequestId) (n : List ℕ) (w : Text) → json.value max_depth (front (id_token id) n w ++ bad ∷ []) ≡ None
unfolding json.value json.items json.members
front_unread (id_text t) n w = refl
front_unread (id_number x) n w = refl
front_unread id_null n w = refl

wide_unread : (id : RequestId) (n : ℕ) (w : Weight) (k : ℕ) (d : Data) (q : Option Data) (e : Data) → Back (id_tree id) → Back (value.number (unsigned n)) → IsWide (decimal k) → read (compact_text (weighed_reply id n w k d q)) ≡ Some e → ⊥
wide_unread id n w k d q e i m wide h =
    let reply = weighed_reply id n w k d q in
    let pre : List Token = front (id_token id) (decimal n) (weight_name w) in
    let b = stands_behind id n w k d q in
    let text : compact_text reply ≡ print (pre ++ number (decimal k) ∷ b.post) = sym (print-outline reply) ∙ ap print b.are in
    let l = lex_up_to pre (decimal k) b.post (front_printable id (decimal n) (weight_name w) i m.numbers) refl wide in
    let are : tokens (compact_text reply) ≡ pre ++ bad ∷ [] = ap tokens text ∙ (ap (punctuate fresh) l.1 ∙ front_stops id (decimal n) (weight_name w) l.0) in
    unread (compact_text reply) e (ap (json.value max_depth) are ∙ front_unread id (decimal n) (weight_name w)) h

-- ---- the line

-- the numbers of a limit are of JSON, or it is a weight with one that isn't
abbrev LimitKinds : Option Limit → Type 0
LimitKinds l = HaveNumbers (option_map limit_tree l) ⊎ ((w : Weight) × (k : ℕ) × (l ≡ Some (weighed w k)) × IsWide (decimal k))

limit_kinds : (l : Option Limit) → LimitKinds l
limit_kinds None = inl tt
limit_kinds (Some (wide_call first second symbol)) = inl (tt, (tt, (tt, (tt, tt))))
limit_kinds (Some (weighed w k)) = by (decimal_kinds k)
  where
    by : IsNumber (decimal k) ⊎ IsWide (decimal k) → LimitKinds (Some (weighed w k))
    by (inl h) = inl (tt, (h, tt))
    by (inr h) = inr (w, k, refl, h)

open_untold : (method : Method) (id : RequestId) (n : ℕ) (s : StateParts) (u : Undecided) (tree : Data) (e : Data) (r : ServerReply) (o : Made n s u tree) → IsAsked method → Back (id_tree id) → Back (value.number (unsigned n)) → Back o.state → MayBack o.shows
    → LimitKinds (limit_of u) → read (compact_text (result_reply id (open_tree n o.state (option_map limit_tree (limit_of u)) o.shows))) ≡ Some e → read_reply method e ≡ Some r → IsLeft method (unfinished_parts n s u) r
open_untold method id n s u tree e r o asked i m h g (inl k) reads tells =
    let x : Option Data = option_map limit_tree (limit_of u) in
    let d : Data = o.state in
    let q : Option Data = o.shows in
    let y = read_open id n d x q e i m h g (read_outline (result_reply id (open_tree n d x q)) e (reply_numbers id n d x q i m h k g) reads) in
    untold method id n s u d y.limit_read q r asked o.state_is (λ t told. o.names t (ap (λ z. told_of z q) (sym y.from) ∙ told)) (subst (λ t. read_reply method t ≡ Some r) y.is tells)
open_untold method id n s u tree e r o asked i m h g (inr (w, k, is, wide)) reads tells =
    absurd (wide_unread id n w k o.state o.shows e i m wide (subst (λ y. read (compact_text (result_reply id (open_tree n o.state (option_map limit_tree y) o.shows))) ≡ Some e) is reads))

may_back : (q : Option Data) → ((x : Data) → q ≡ Some x → Back x) → MayBack q
may_back None h = tt
may_back (Some x) h = h x refl

tells_nothing : (method : Method) (id : RequestId) (depth : ℕ) (state : StateParts) (u : Undecided) (tree : Data) (r : ServerReply) → IsAsked method → IsReadId id → depth < 2 ^ 64 → aborted_tree depth state u ≡ Some tree
    → IsReplyOf method (reply_bytes (result_reply id tree)) r → IsLeft method (unfinished_parts depth state u) r
tells_nothing method id depth state u tree r asked lawful fits written (text, is, (e, frame, tells)) =
    let m = made depth state u tree written in
    let one : compact_text (result_reply id tree) ≡ text = same_front (compact_text (result_reply id tree)) text is in
    let reads : read (compact_text (result_reply id tree)) ≡ Some e = ap read one ∙ frame.reads in
    open_untold method id depth state u tree e r m asked (id_back id lawful) (number_back depth fits) (state_tree_back state.term state.predicate m.state m.state_is) (may_back m.shows m.shows_back)
    (limit_kinds (limit_of u)) (subst (λ t. read (compact_text (result_reply id t)) ≡ Some e) (sym m.is) reads) tells

pub aborted_back : (id : RequestId) (depth : ℕ) (state : StateParts) (u : Undecided) (tree : Data) (r : ServerReply) → IsReadId id → depth < 2 ^ 64 → aborted_tree depth state u ≡ Some tree
    → IsReplyOf execute (reply_bytes (result_reply id tree)) r → r ≡ unfinished (unfinished_parts depth state u)
aborted_back id depth state u tree r lawful fits written told = tells_nothing execute id depth state u tree r tt lawful fits written told

pub aborted_no_implication : (id : RequestId) (depth : ℕ) (state : StateParts) (u : Undecided) (tree : Data) (r : ServerReply) → IsReadId id → depth < 2 ^ 64 → aborted_tree depth state u ≡ Some tree
    → IsReplyOf implies (reply_bytes (result_reply id tree)) r → ⊥
aborted_no_implication id depth state u tree r lawful fits written told = tells_nothing implies id depth state u tree r tt lawful fits written told
