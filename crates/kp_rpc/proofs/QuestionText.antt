-- The text that is written of a question: it is exact, since there is no float, and it is a frame of the question.
use Rattle.std.proofs.Common.{◌≡◌, ℕ, ◌≤◌, List, [], ◌∷◌, length, false, Option, Some, None, option_map, Ordering, Less, Equal, Greater, refl, sym, ap, ◌∙◌, subst}
use Rattle.std.proofs.lemmas.Bool.{or_parts}
use Rattle.std.specs.Prelude.{codes, string_bytes, IsUtf8}
use Rattle.std.specs.Cmp.Lexicographic.{slice_cmp}
use Rattle.std.specs.Ordering.{nat_cmp, match_ordering}
use Rattle.serde_json.specs.Data.{Data, unsigned, negative, float, number, string, array, Members, no_members, member, put, depth}
use Rattle.serde_json.specs.Read.{read, max_depth}
use Rattle.serde_json.specs.Written.{has_float, items_have_float, members_have_float, compact_text}
use Rattle.kp_kore.specs.Syntax.{Text}
use Rattle.kp_kore.specs.View.{view}
use Rattle.kp_json.specs.Written.{two_parts, wrapped_pattern}
use Rattle.kp_frames.specs.Frames.{most_frame}
use Rattle.kp_rpc.specs.Frame.{IsFrame, IsFrameData}
use Rattle.kp_rpc.specs.Request.{RequestId, id_text, id_number, id_null, id_tree, ExecuteOptions, ExecuteRequest, ImpliesRequest, execute_method, implies_method}
use Rattle.kp_rpc.specs.Questions.{Question, to_execute, to_imply, to_add, IsLawfulId, with_number, with_text, text_items, with_texts, execute_params, implies_params, request_object, question_tree}
use Rattle.kp_rpc.specs.View.{id_view, options_view, name_view, question_view}
use Rattle.kp_rpc.specs.declared.question.Question.{Question as RustQuestion}
use Rattle.kp_rpc.specs.declared.question.Question.TheVariants as question
use Rattle.kp_rpc.proofs.Asked.{ids_are_lawful}
use Rattle.kp_rpc.proofs.Floats.{IsPlain, one_plain, two_plain, wrapped_is_plain, plain_is}

-- ---- no float

put_plain_at : (o : Ordering) (k l : Text) (d e : Data) (ms : Members) → has_float d ≡ false → has_float e ≡ false → members_have_float ms ≡ false → members_have_float (put k d ms) ≡ false
    → members_have_float (match_ordering o (member k d (member l e ms)) (member l d ms) (member l e (put k d ms))) ≡ false
put_plain_at Less k l d e ms h i m later = rw (h, i, m) refl
put_plain_at Equal k l d e ms h i m later = rw (h, m) refl
put_plain_at Greater k l d e ms h i m later = rw (i, later) refl

pub put_plain : (k : Text) (d : Data) (ms : Members) → has_float d ≡ false → members_have_float ms ≡ false → members_have_float (put k d ms) ≡ false
put_plain k d no_members h m = rw h refl
put_plain k d (member l e ms) h m =
    let parts = or_parts (has_float e) (members_have_float ms) m in
    put_plain_at (slice_cmp nat_cmp k l) k l d e ms h parts.0 parts.1 (put_plain k d ms h parts.1)

items_plain : (ts : List Text) → items_have_float (text_items ts) ≡ false
items_plain [] = refl
items_plain (t ∷ ts) = items_plain ts

number_plain : (k : Text) (n : Option ℕ) (o : Members) → members_have_float o ≡ false → members_have_float (with_number k n o) ≡ false
number_plain k None o h = h
number_plain k (Some n) o h = put_plain k (number (unsigned n)) o refl h

pub text_plain : (k : Text) (t : Option Text) (o : Members) → members_have_float o ≡ false → members_have_float (with_text k t o) ≡ false
text_plain k None o h = h
text_plain k (Some t) o h = put_plain k (string t) o refl h

texts_plain : (k : Text) (ts : List Text) (o : Members) → members_have_float o ≡ false → members_have_float (with_texts k ts o) ≡ false
texts_plain k [] o h = h
texts_plain k (t ∷ ts) o h = put_plain k (array (text_items (t ∷ ts))) o (items_plain (t ∷ ts)) h

execute_params_plain : (o : ExecuteOptions) (s : Data) → has_float s ≡ false → members_have_float (execute_params o s) ≡ false
execute_params_plain o s h =
    let ends : Members = with_texts (codes "terminal-rules") o.terminals no_members in
    let state : Members = put (codes "state") s ends in
    let named : Members = with_text (codes "module") o.module_name state in
    let deep : Members = with_number (codes "max-depth") o.max_depth named in
    let plain_state = put_plain (codes "state") s ends h (texts_plain (codes "terminal-rules") o.terminals no_members refl) in
    let plain_deep = number_plain (codes "max-depth") o.max_depth named (text_plain (codes "module") o.module_name state plain_state) in
    texts_plain (codes "cut-point-rules") o.cut_points deep plain_deep

implies_params_plain : (name : Option Text) (a c : Data) → has_float a ≡ false → has_float c ≡ false → members_have_float (implies_params name a c) ≡ false
implies_params_plain name a c h k =
    let named : Members = with_text (codes "module") name no_members in
    let consequent : Members = put (codes "consequent") c named in
    put_plain (codes "antecedent") a consequent h (put_plain (codes "consequent") c named k (text_plain (codes "module") name no_members refl))

id_plain : (id : RequestId) → IsLawfulId id → has_float (id_tree id) ≡ false
id_plain (id_text t) h = refl
id_plain (id_number (unsigned n)) h = refl
id_plain (id_number (negative z)) h = refl
id_plain (id_number (float x)) h = absurd h
id_plain id_null h = refl

pub request_plain : (id : RequestId) (method : Text) (params : Members) → IsLawfulId id → members_have_float params ≡ false → has_float (request_object id method params) ≡ false
request_plain id method params lawful h = rw (id_plain id lawful, h) refl

execute_plain : (q : ExecuteRequest) → IsLawfulId q.id → IsPlain (question_tree (to_execute q))
execute_plain q lawful =
    one_plain (λ s. request_object q.id execute_method (execute_params q.options s)) (wrapped_pattern q.state)
    (λ s h. request_plain q.id execute_method (execute_params q.options s) lawful (execute_params_plain q.options s h)) (wrapped_is_plain q.state)

implies_plain : (q : ImpliesRequest) → IsLawfulId q.id → IsPlain (question_tree (to_imply q))
implies_plain q lawful =
    two_plain (λ a c. request_object q.id implies_method (implies_params q.module_name a c)) (wrapped_pattern q.antecedent) (wrapped_pattern q.consequent)
    (λ a c h k. request_plain q.id implies_method (implies_params q.module_name a c) lawful (implies_params_plain q.module_name a c h k)) (wrapped_is_plain q.antecedent) (wrapped_is_plain q.consequent)

question_plain : (q : RustQuestion) → IsPlain (question_tree (question_view q))
question_plain (question.Execute i state options) = execute_plain (record { id = id_view i; state = view state; options = options_view options }) (ids_are_lawful i)
question_plain (question.Implies i antecedent consequent name) =
    implies_plain (record { id = id_view i; antecedent = view antecedent; consequent = view consequent; module_name = name_view name }) (ids_are_lawful i)
question_plain (question.AddModule i text) = request_plain (id_view i) (codes "add-module") (put (codes "module") (string (string_bytes text)) no_members) (ids_are_lawful i) refl

pub question_written : (q : RustQuestion) (d : Data) (text : List ℕ) → Some d ≡ question_tree (question_view q) → (has_float d ≡ false → text ≡ compact_text d)
    → Some text ≡ option_map compact_text (question_tree (question_view q))
question_written q d text e h = ap Some (h (plain_is (question_tree (question_view q)) d (question_plain q) e)) ∙ ap (option_map compact_text) e

-- ---- frames

-- a tree, where there is one, is an object or an array
abbrev IsBracketed : Option Data → Type 0
IsBracketed None = Unit {0}
IsBracketed (Some d) = IsFrameData d

execute_bracketed : (id : RequestId) (options : ExecuteOptions) (x : Option Data) → IsBracketed (option_map (λ s. request_object id execute_method (execute_params options s)) x)
execute_bracketed id options None = tt
execute_bracketed id options (Some s) = tt

implies_bracketed : (id : RequestId) (name : Option Text) (x y : Option Data) → IsBracketed (two_parts (λ a c. request_object id implies_method (implies_params name a c)) x y)
implies_bracketed id name None y = tt
implies_bracketed id name (Some a) None = tt
implies_bracketed id name (Some a) (Some c) = tt

question_bracketed : (q : Question) → IsBracketed (question_tree q)
question_bracketed (to_execute q) = execute_bracketed q.id q.options (wrapped_pattern q.state)
question_bracketed (to_imply q) = implies_bracketed q.id q.module_name (wrapped_pattern q.antecedent) (wrapped_pattern q.consequent)
question_bracketed (to_add id text) = tt

from_some : (d e : Data) → Some d ≡ Some e → d ≡ e
from_some d e same = cc same

pub question_framed : (q : Question) (t d : Data) (text : List ℕ) → Some t ≡ question_tree q → question_tree q ≡ Some d → (depth t ≤ max_depth → read text ≡ Some t) → IsUtf8 text
    → depth d ≤ max_depth → length text ≤ most_frame → IsFrame text d
question_framed q t d text e f back utf8 shallow fits =
    let same : t ≡ d = from_some t d (e ∙ f) in
    record {
      fits = fits;
      utf8 = utf8;
      reads = back (subst (λ x. depth x ≤ max_depth) (sym same) shallow) ∙ ap Some same;
      brackets = subst IsBracketed f (question_bracketed q);
    }
