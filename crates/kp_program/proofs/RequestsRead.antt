-- A call of a frame that asks for a run or an implication is that request.
use Rattle.std.proofs.Common.{◌≡◌, ℕ, List, Bool, true, false, Option, Some, None, option_map, option_and_then, refl, sym, ap, subst, ◌∙◌}
use Rattle.std.proofs.lemmas.Slice.Eq.{bytes_eq-Decides}
use Rattle.std.specs.Prelude.{codes, if◌then◌else◌}
use Rattle.std.specs.Str.{bytes_eq}
use Rattle.serde_json.specs.Data.{Data, null, boolean, number, string, array, object, Items, no_items, item, Members}
use Rattle.serde_json.specs.Find.{get, as_str}
use Rattle.kp_kore.specs.Syntax.{Text, KorePattern}
use Rattle.kp_json.specs.Faults.{Reading, read, wrapped_reading}
use Rattle.kp_json.specs.Trees.{SpellsWrapped}
use Rattle.kp_json.proofs.Sound.{wrapped_sound}
use Rattle.kp_rpc.specs.Frame.{IsFrame}
use Rattle.kp_rpc.specs.Reply.{method_not_found}
use Rattle.kp_rpc.specs.Readings.{read_id, read_object, read_options, read_text}
use Rattle.kp_rpc.specs.Request.{RequestId, IsReadId, IsRequest, ExecuteOptions, IsExecute, IsImplies, execute_method, implies_method}
use Rattle.kp_rpc.proofs.HeadingsRead.{request_is}
use Rattle.kp_rpc.proofs.ParamsRead.{params_found, sides_found, side_told}
use Rattle.kp_rpc.proofs.IdsRead.{id_read}
use Rattle.kp_requests.specs.Requests.{Request, execute, implies, simplify, add_module, asks, refused, Call, single}
use Rattle.kp_requests.specs.Calls.{asked_of, call_from, is_two, or_invalid_params, read_call, read_call_id, read_execute, read_flag, read_implies, read_simplify, read_add_module, read_batch, read_frame}
use Rattle.kp_replies.proofs.Methods.{present}

from_some : {A : Type 0} (x y : A) → Some x ≡ Some y → x ≡ y
from_some x y e = cc e

mapped : {A B : Type 0} (f : A → B) (x : Option A) (b : B) → option_map f x ≡ Some b → (a : A) × (x ≡ Some a) × (f a ≡ b)
mapped f None b e = absurd (cc e)
mapped f (Some a) b e = (a, refl, cc e)

-- ---- calls

-- a call with an id that asks for something is a request object, whose method and params ask that
pub record IsAsked (d : Data) (id : RequestId) (r : Request) : Type 0 where
  pub method : Text
  pub members : Members
  pub tree : d ≡ object members
  pub is_request : IsRequest members id method
  pub asks : asked_of method (read_object (codes "params") d) ≡ asks r

two_is : (x : Option Text) → is_two x ≡ true → Some (codes "2.0") ≡ x
two_is None e = absurd (cc e)
two_is (Some v) e = ap Some (sym ((bytes_eq-Decides v (codes "2.0")).0 e))

id_is : (x : Option Data) (id : RequestId) → read_call_id x ≡ Some (Some id) → Some id ≡ option_and_then read_id x
id_is None id e = absurd (cc e)
id_is (Some d) id e =
    let m = mapped Some (read_id d) (Some id) e in
    sym (m.1 ∙ m.2)

call_is : (d : Data) (b : Bool) (m : Option Text) (i : Option (Option RequestId)) (c : Call) (id : RequestId) (r : Request)
    → is_two (option_and_then as_str (get (codes "jsonrpc") d)) ≡ b → option_and_then as_str (get (codes "method") d) ≡ m → read_call_id (get (codes "id") d) ≡ i
    → call_from d b m i ≡ c → c.id ≡ Some id → c.asked ≡ asks r → IsAsked d id r
call_is d false m i c id r v n k is named asked = let both : refused _ ≡ asks r = ap (λ x. x.asked) is ∙ asked in absurd (cc both)
call_is d true None i c id r v n k is named asked = let both : refused _ ≡ asks r = ap (λ x. x.asked) is ∙ asked in absurd (cc both)
call_is d true (Some method) None c id r v n k is named asked = let both : refused _ ≡ asks r = ap (λ x. x.asked) is ∙ asked in absurd (cc both)
call_is d true (Some method) (Some i) c id r v n k is named asked =
    let own : i ≡ Some id = ap (λ x. x.id) is ∙ named in
    let found = request_is d id method (two_is _ v) (sym n) (id_is _ id (k ∙ ap Some own)) in
    record { method = method; members = found.0; tree = found.1; is_request = found.2; asks = ap (λ x. x.asked) is ∙ asked }

read_call_is : (d : Data) (c : Call) (id : RequestId) (r : Request) → read_call d ≡ c → c.id ≡ Some id → c.asked ≡ asks r → IsAsked d id r
read_call_is d c id r is named asked = call_is d _ _ _ c id r refl refl refl is named asked

one_call : (c e : Call) → single c ≡ single e → c ≡ e
one_call c e same = cc same

batch_is : (ds : Items) (c : Call) → read_batch ds ≡ single c → ⊥
batch_is no_items c e = cc e
batch_is (item d ds) c e = cc e

-- a frame of one call
pub frame_asked : (d : Data) (c : Call) (id : RequestId) (r : Request) → read_frame d ≡ single c → c.id ≡ Some id → c.asked ≡ asks r → IsAsked d id r
frame_asked (array ds) c id r is named asked = absurd (batch_is ds c is)
frame_asked null c id r is named asked = read_call_is null c id r (one_call _ c is) named asked
frame_asked (boolean b) c id r is named asked = read_call_is (boolean b) c id r (one_call _ c is) named asked
frame_asked (number n) c id r is named asked = read_call_is (number n) c id r (one_call _ c is) named asked
frame_asked (string t) c id r is named asked = read_call_is (string t) c id r (one_call _ c is) named asked
frame_asked (object o) c id r is named asked = read_call_is (object o) c id r (one_call _ c is) named asked

-- its id is one that a reader of JSON can have read
pub asked_id : (bytes : List ℕ) (d : Data) (id : RequestId) (r : Request) → IsFrame bytes d → IsAsked d id r → IsReadId id
asked_id bytes d id r frame a = id_read bytes a.members id (subst (λ (e : Data). IsFrame bytes e) a.tree frame) a.is_request.has_id

-- ---- methods

abbrev kind : Request → ℕ
kind (execute s o) = 0
kind (implies a c name) = 1
kind (simplify s name) = 2
kind (add_module text named) = 3

mapped_kind : {A : Type 0} (k : ℕ) (f : A → Request) (x : Option A) (r : Request) → ((a : A) → kind (f a) ≡ k) → option_map f x ≡ Some r → kind r ≡ k
mapped_kind k f x r h e = let m = mapped f x r e in ap kind (sym m.2) ∙ h m.0

then_kind : {A : Type 0} (k : ℕ) (f : A → Option Request) (x : Option A) (r : Request) → ((a : A) → f a ≡ Some r → kind r ≡ k) → option_and_then f x ≡ Some r → kind r ≡ k
then_kind k f x r h e = let m = present f x r e in h m.0 m.2

execute_kind : (params : Option Data) (r : Request) → option_and_then read_execute params ≡ Some r → kind r ≡ 0
execute_kind params r e =
    then_kind 0 read_execute params r (λ p. then_kind 0 _ (read_object (codes "state") p) r (λ s. mapped_kind 0 _ (read_options p) r (λ o. refl))) e

implies_kind : (params : Option Data) (r : Request) → option_and_then read_implies params ≡ Some r → kind r ≡ 1
implies_kind params r e =
    then_kind 1 read_implies params r (λ p. then_kind 1 _ (read_object (codes "antecedent") p) r (λ a. then_kind 1 _ (read_object (codes "consequent") p) r
    (λ c. mapped_kind 1 _ (read_text (get (codes "module") p)) r (λ n. refl)))) e

simplify_kind : (params : Option Data) (r : Request) → option_and_then read_simplify params ≡ Some r → kind r ≡ 2
simplify_kind params r e =
    then_kind 2 read_simplify params r (λ p. then_kind 2 _ (read_object (codes "state") p) r (λ s. mapped_kind 2 _ (read_text (get (codes "module") p)) r (λ n. refl))) e

add_module_kind : (params : Option Data) (r : Request) → option_and_then read_add_module params ≡ Some r → kind r ≡ 3
add_module_kind params r e =
    then_kind 3 read_add_module params r (λ p. then_kind 3 _ (option_and_then as_str (get (codes "module") p)) r (λ t. mapped_kind 3 _ (read_flag (get (codes "name-as-id") p)) r (λ b. refl))) e

-- what a method is asked
valid_params : (x : Option Request) (r : Request) → or_invalid_params x ≡ asks r → x ≡ Some r
valid_params None r e = absurd (cc e)
valid_params (Some q) r e = cc e

run_asked : (method : Text) (params : Option Data) (r : Request) (e i s a : Bool) → bytes_eq method (codes "execute") ≡ e → kind r ≡ 0
    → (if e then or_invalid_params (option_and_then read_execute params) else (if i then or_invalid_params (option_and_then read_implies params) else
    (if s then or_invalid_params (option_and_then read_simplify params) else (if a then or_invalid_params (option_and_then read_add_module params) else refused method_not_found)))) ≡ asks r
    → (method ≡ execute_method) × (option_and_then read_execute params ≡ Some r)
run_asked method params r true i s a is zero h = ((bytes_eq-Decides method (codes "execute")).0 is, valid_params _ r h)
run_asked method params r false true s a is zero h = let both : 0 ≡ 1 = sym zero ∙ implies_kind params r (valid_params _ r h) in absurd (cc both)
run_asked method params r false false true a is zero h = let both : 0 ≡ 2 = sym zero ∙ simplify_kind params r (valid_params _ r h) in absurd (cc both)
run_asked method params r false false false true is zero h = let both : 0 ≡ 3 = sym zero ∙ add_module_kind params r (valid_params _ r h) in absurd (cc both)
run_asked method params r false false false false is zero h = absurd (cc h)

implication_asked : (method : Text) (params : Option Data) (r : Request) (e i s a : Bool) → bytes_eq method (codes "implies") ≡ i → kind r ≡ 1
    → (if e then or_invalid_params (option_and_then read_execute params) else (if i then or_invalid_params (option_and_then read_implies params) else
    (if s then or_invalid_params (option_and_then read_simplify params) else (if a then or_invalid_params (option_and_then read_add_module params) else refused method_not_found)))) ≡ asks r
    → (method ≡ implies_method) × (option_and_then read_implies params ≡ Some r)
implication_asked method params r true i s a is one h = let both : 1 ≡ 0 = sym one ∙ execute_kind params r (valid_params _ r h) in absurd (cc both)
implication_asked method params r false true s a is one h = ((bytes_eq-Decides method (codes "implies")).0 is, valid_params _ r h)
implication_asked method params r false false true a is one h = let both : 1 ≡ 2 = sym one ∙ simplify_kind params r (valid_params _ r h) in absurd (cc both)
implication_asked method params r false false false true is one h = let both : 1 ≡ 3 = sym one ∙ add_module_kind params r (valid_params _ r h) in absurd (cc both)
implication_asked method params r false false false false is one h = absurd (cc h)

-- ---- a request of execute

same_run : (a b : Reading KorePattern) (o q : ExecuteOptions) → execute a o ≡ execute b q → (a ≡ b) × (o ≡ q)
same_run a b o q e = (cc e, cc e)

pub run_request : (d : Data) (id : RequestId) (p : KorePattern) (options : ExecuteOptions) → IsAsked d id (execute (read p) options) → (o : Members) × (d ≡ object o) × IsExecute o (record { id = id; state = p; options = options })
run_request d id p options a =
    let params = read_object (codes "params") d in
    let m = run_asked a.method params (execute (read p) options) _ _ _ _ refl refl a.asks in
    let x = present read_execute params (execute (read p) options) m.1 in
    let s = present (λ s. option_map (execute (wrapped_reading s)) (read_options x.0)) (read_object (codes "state") x.0) (execute (read p) options) x.2 in
    let q = mapped (execute (wrapped_reading s.0)) (read_options x.0) (execute (read p) options) s.2 in
    let both = same_run (wrapped_reading s.0) (read p) q.0 options q.2 in
    let within : read_object (codes "params") (object a.members) ≡ Some x.0 = ap (read_object (codes "params")) (sym a.tree) ∙ x.1 in
    let found = params_found a.members s.0 options (ap (option_and_then (read_object (codes "state"))) within ∙ s.1) (ap (option_and_then read_options) within ∙ q.1 ∙ ap Some both.1) in (
      a.members,
      a.tree,
      record {
        is_request = subst (λ (n : Text). IsRequest a.members id n) m.0 a.is_request;
        state = found.state;
        has_params = found.params;
        spells = subst (λ (e : Data). SpellsWrapped e p) found.state_is (wrapped_sound s.0 p both.0);
      },
    )

-- ---- a request of implies

same_sides : (a b c e : Reading KorePattern) (n m : Option Text) → implies a c n ≡ implies b e m → (a ≡ b) × (c ≡ e) × (n ≡ m)
same_sides a b c e n m same = (cc same, cc same, cc same)

pub implication_request : (d : Data) (id : RequestId) (p q : KorePattern) (name : Option Text) → IsAsked d id (implies (read p) (read q) name)
    → (o : Members) × (d ≡ object o) × IsImplies o (record { id = id; antecedent = p; consequent = q; module_name = name })
implication_request d id p q name a =
    let r = implies (read p) (read q) name in
    let params = read_object (codes "params") d in
    let m = implication_asked a.method params r _ _ _ _ refl refl a.asks in
    let x = present read_implies params r m.1 in
    let left = present (λ a. option_and_then (λ c. option_map (implies (wrapped_reading a) (wrapped_reading c)) (read_text (get (codes "module") x.0))) (read_object (codes "consequent") x.0)) (read_object (codes "antecedent") x.0) r x.2 in
    let right = present (λ c. option_map (implies (wrapped_reading left.0) (wrapped_reading c)) (read_text (get (codes "module") x.0))) (read_object (codes "consequent") x.0) r left.2 in
    let n = mapped (implies (wrapped_reading left.0) (wrapped_reading right.0)) (read_text (get (codes "module") x.0)) r right.2 in
    let both = same_sides (wrapped_reading left.0) (read p) (wrapped_reading right.0) (read q) n.0 name n.2 in
    let within : read_object (codes "params") (object a.members) ≡ Some x.0 = ap (read_object (codes "params")) (sym a.tree) ∙ x.1 in
    let here = ap (option_and_then (read_object (codes "antecedent"))) within ∙ left.1 in
    let there = ap (option_and_then (read_object (codes "consequent"))) within ∙ right.1 in
    let found = sides_found a.members left.0 right.0 name here there (ap (option_and_then (λ y. read_text (get (codes "module") y))) within ∙ n.1 ∙ ap Some both.2) in
    let first : left.0 ≡ object found.antecedent = from_some _ _ (sym here ∙ side_told a.members found.sides.params found.antecedent (codes "antecedent") found.sides.has_params found.sides.has_antecedent) in
    let second : right.0 ≡ object found.consequent = from_some _ _ (sym there ∙ side_told a.members found.sides.params found.consequent (codes "consequent") found.sides.has_params found.sides.has_consequent) in (
      a.members,
      a.tree,
      record {
        is_request = subst (λ (s : Text). IsRequest a.members id s) m.0 a.is_request;
        antecedent = found.antecedent;
        consequent = found.consequent;
        has_sides = found.sides;
        spells_antecedent = subst (λ (e : Data). SpellsWrapped e p) first (wrapped_sound left.0 p both.0);
        spells_consequent = subst (λ (e : Data). SpellsWrapped e q) second (wrapped_sound right.0 q both.1);
      },
    )
