-- The tree of a question is that request.
use Rattle.std.proofs.Common.{◌≡◌, inl, inr, ℕ, ℤ, pos, negsuc, List, [], ◌∷◌, Option, Some, None, option_map, false, true≢false, bytes_eq, refl, sym, ap, ◌∙◌, subst}
use Rattle.std.proofs.lemmas.Slice.Eq.{bytes_eq-Decides}
use Rattle.std.specs.Prelude.{codes}
use Rattle.serde_json.specs.Data.{Data, unsigned, number, string, array, object, Members, no_members, put}
use Rattle.serde_json.specs.Find.{get_member, of_integer}
use Rattle.serde_json.proofs.Views.{get_member-put, get_member-put_other}
use Rattle.kp_kore.specs.Syntax.{Text, KorePattern}
use Rattle.kp_json.specs.Members.{Has, Lacks, members_of}
use Rattle.kp_json.specs.Trees.{SpellsWrapped, wrapper}
use Rattle.kp_json.specs.Written.{two_parts, wrapped_pattern}
use Rattle.kp_json.proofs.RoundTrip.{wrapped_written}
use Rattle.kp_rpc.specs.Request.{RequestId, id_number, id_tree, NumberAt, TextAt, AreTexts, TextsAt, ExecuteOptions, HasOptions, IsRequest, IsExecute, IsImplies, HasSides, ExecuteRequest, ImpliesRequest, execute_method, implies_method, IsAddModule}
use Rattle.kp_rpc.specs.View.{id_view}
use Rattle.kp_rpc.specs.declared.id.Id.{Id}
use Rattle.kp_rpc.specs.declared.id.Id.TheVariants as id
use Rattle.kp_rpc.specs.Questions.{to_execute, to_imply, to_add, IsLawfulId, with_number, with_text, text_items, with_texts, execute_params, implies_params, request_object, question_tree}

pub apart : (q k : Text) → bytes_eq q k ≡ false → q ≡ k → ⊥
apart q k e h = true≢false (sym ((bytes_eq-Decides q k).1 h) ∙ e)

pub put_other : (q k : Text) (d : Data) (o : Members) → bytes_eq q k ≡ false → get_member q (put k d o) ≡ get_member q o
put_other q k d o e = get_member-put_other q k d o (apart q k e)

-- ---- one member more, where there is something to say

number_other : (q k : Text) (n : Option ℕ) (o : Members) → bytes_eq q k ≡ false → get_member q (with_number k n o) ≡ get_member q o
number_other q k None o e = refl
number_other q k (Some n) o e = put_other q k (number (unsigned n)) o e

text_other : (q k : Text) (t : Option Text) (o : Members) → bytes_eq q k ≡ false → get_member q (with_text k t o) ≡ get_member q o
text_other q k None o e = refl
text_other q k (Some t) o e = put_other q k (string t) o e

texts_other : (q k : Text) (ts : List Text) (o : Members) → bytes_eq q k ≡ false → get_member q (with_texts k ts o) ≡ get_member q o
texts_other q k [] o e = refl
texts_other q k (t ∷ ts) o e = put_other q k (array (text_items (t ∷ ts))) o e

number_here : (k : Text) (n : Option ℕ) (o p : Members) → Lacks o k → get_member k p ≡ get_member k (with_number k n o) → NumberAt p k n
number_here k None o p lacks same = inl (same ∙ lacks)
number_here k (Some n) o p lacks same = same ∙ get_member-put k (number (unsigned n)) o

pub text_here : (k : Text) (t : Option Text) (o p : Members) → Lacks o k → get_member k p ≡ get_member k (with_text k t o) → TextAt p k t
text_here k None o p lacks same = inl (same ∙ lacks)
text_here k (Some t) o p lacks same = same ∙ get_member-put k (string t) o

are_texts : (ts : List Text) → AreTexts (text_items ts) ts
are_texts [] = refl
are_texts (t ∷ ts) = (refl, are_texts ts)

texts_here : (k : Text) (ts : List Text) (o p : Members) → Lacks o k → get_member k p ≡ get_member k (with_texts k ts o) → TextsAt p k ts
texts_here k [] o p lacks same = inl (inl (same ∙ lacks), refl)
texts_here k (t ∷ ts) o p lacks same = inr (text_items (t ∷ ts), same ∙ get_member-put k (array (text_items (t ∷ ts))) o, are_texts (t ∷ ts))

-- ---- params

abbrev cuts : Text
cuts = codes "cut-point-rules"

abbrev ends : Text
ends = codes "terminal-rules"

abbrev deep : Text
deep = codes "max-depth"

abbrev pub named : Text
named = codes "module"

abbrev state_key : Text
state_key = codes "state"

-- the params of execute, from the inside out
abbrev with_ends : ExecuteOptions → Data → Members
with_ends o s = with_texts ends o.terminals no_members

abbrev with_state : ExecuteOptions → Data → Members
with_state o s = put state_key s (with_ends o s)

abbrev with_module : ExecuteOptions → Data → Members
with_module o s = with_text named o.module_name (with_state o s)

abbrev with_depth : ExecuteOptions → Data → Members
with_depth o s = with_number deep o.max_depth (with_module o s)

pub options_are : (o : ExecuteOptions) (s : Data) → HasOptions (execute_params o s) o
options_are o s =
    let p : Members = execute_params o s in
    let state_of : (q : Text) → bytes_eq q ends ≡ false → bytes_eq q state_key ≡ false → Lacks (with_state o s) q = λ q e f. put_other q state_key s (with_ends o s) f ∙ texts_other q ends o.terminals no_members e in
    let module_of : (q : Text) → bytes_eq q named ≡ false → get_member q (with_module o s) ≡ get_member q (with_state o s) = λ q e. text_other q named o.module_name (with_state o s) e in
    let depth_of : (q : Text) → bytes_eq q deep ≡ false → get_member q (with_depth o s) ≡ get_member q (with_module o s) = λ q e. number_other q deep o.max_depth (with_module o s) e in
    let all_of : (q : Text) → bytes_eq q cuts ≡ false → get_member q p ≡ get_member q (with_depth o s) = λ q e. texts_other q cuts o.cut_points (with_depth o s) e in
    record {
      max_depth = number_here deep o.max_depth (with_module o s) p (module_of deep refl ∙ state_of deep refl refl) (all_of deep refl);
      module_name = text_here named o.module_name (with_state o s) p (state_of named refl refl) (all_of named refl ∙ depth_of named refl);
      cut_points = texts_here cuts o.cut_points (with_depth o s) p (depth_of cuts refl ∙ module_of cuts refl ∙ state_of cuts refl refl) refl;
      terminals = texts_here ends o.terminals no_members p refl (all_of ends refl ∙ depth_of ends refl ∙ module_of ends refl ∙ put_other ends state_key s (with_ends o s) refl);
    }

pub state_is : (o : ExecuteOptions) (s : Data) → Has (execute_params o s) state_key s
state_is o s =
    texts_other state_key cuts o.cut_points (with_depth o s) refl ∙ number_other state_key deep o.max_depth (with_module o s) refl
    ∙ text_other state_key named o.module_name (with_state o s) refl ∙ get_member-put state_key s (with_ends o s)

-- ---- requests

-- the members of a request
abbrev pub request_members : RequestId → Text → Members → Members
request_members id method params = members_of ((codes "id", id_tree id) ∷ (codes "jsonrpc", string (codes "2.0")) ∷ (codes "method", string method) ∷ (codes "params", object params) ∷ [])

request_is : (id : RequestId) (method : Text) (params : Members) → IsLawfulId id → IsRequest (request_members id method params) id method
request_is id method params lawful = record { version = refl; method_text = refl; has_id = (id_tree id, refl, lawful) }

pub object_spelled : (d : Data) (p : KorePattern) → SpellsWrapped d p → (o : Members) × (d ≡ object o)
object_spelled _ _ (wrapper o tree p format version term spelled) = (o, refl)

-- the tree that is written for a spelled pattern is an object that spells it
record WrittenAs (p : KorePattern) (x : Option Data) : Type 0 where
  pub members : Members
  pub written : x ≡ Some (object members)
  pub spells : SpellsWrapped (object members) p

written_as : (d : Data) (p : KorePattern) → SpellsWrapped d p → WrittenAs p (wrapped_pattern p)
written_as d p h =
    let w = wrapped_written d p h in
    let o = object_spelled w.0 p w.2 in
    record { members = o.0; written = w.1 ∙ ap Some o.1; spells = subst (λ e. SpellsWrapped e p) o.1 w.2 }

from_some : {A : Type 0} (x y : A) → Some x ≡ Some y → x ≡ y
from_some x y e = cc e

pub execute_asked : (q : ExecuteRequest) (tree d : Data) → IsLawfulId q.id → SpellsWrapped tree q.state → question_tree (to_execute q) ≡ Some d → (o : Members) × (d ≡ object o) × IsExecute o q
execute_asked q tree d lawful spelled e =
    let w = written_as tree q.state spelled in
    let params : Members = execute_params q.options (object w.members) in
    let made : question_tree (to_execute q) ≡ Some (object (request_members q.id execute_method params)) = ap (option_map (λ s. request_object q.id execute_method (execute_params q.options s))) w.written in (
      request_members q.id execute_method params,
      from_some _ _ (sym e ∙ made),
      record {
        is_request = request_is q.id execute_method params lawful;
        state = w.members;
        has_params = record { params = params; has_params = refl; has_state = state_is q.options (object w.members); has_options = options_are q.options (object w.members) };
        spells = w.spells;
      },
    )

sides_are : (id : RequestId) (name : Option Text) (a c : Members) → HasSides (request_members id implies_method (implies_params name (object a) (object c))) a c name
sides_are id name a c =
    let inner : Members = with_text named name no_members in
    let middle : Members = put (codes "consequent") (object c) inner in
    record {
      params = implies_params name (object a) (object c);
      has_params = refl;
      has_antecedent = get_member-put (codes "antecedent") (object a) middle;
      has_consequent = put_other (codes "consequent") (codes "antecedent") (object a) middle refl ∙ get_member-put (codes "consequent") (object c) inner;
      has_module = text_here named name no_members (implies_params name (object a) (object c)) refl
          (put_other named (codes "antecedent") (object a) middle refl ∙ put_other named (codes "consequent") (object c) inner refl);
    }

pub implies_asked : (q : ImpliesRequest) (tree other d : Data) → IsLawfulId q.id → SpellsWrapped tree q.antecedent → SpellsWrapped other q.consequent → question_tree (to_imply q) ≡ Some d → (o : Members) × (d ≡ object o) × IsImplies o q
implies_asked q tree other d lawful left right e =
    let a = written_as tree q.antecedent left in
    let c = written_as other q.consequent right in
    let params : Members = implies_params q.module_name (object a.members) (object c.members) in
    let make : Data → Data → Data = λ x y. request_object q.id implies_method (implies_params q.module_name x y) in
    let made : question_tree (to_imply q) ≡ Some (object (request_members q.id implies_method params)) =
    ap (λ x. two_parts make x (wrapped_pattern q.consequent)) a.written ∙ ap (two_parts make (Some (object a.members))) c.written in (
      request_members q.id implies_method params,
      from_some _ _ (sym e ∙ made),
      record {
        is_request = request_is q.id implies_method params lawful;
        antecedent = a.members;
        consequent = c.members;
        has_sides = sides_are q.id q.module_name a.members c.members;
        spells_antecedent = a.spells;
        spells_consequent = c.spells;
      },
    )

pub add_module_asked : (id : RequestId) (text : Text) (d : Data) → IsLawfulId id → question_tree (to_add id text) ≡ Some d → (o : Members) × (d ≡ object o) × IsAddModule o id text
add_module_asked id text d lawful e =
    let params : Members = put named (string text) no_members in (
      request_members id (codes "add-module") params,
      sym (from_some _ _ e),
      record { is_request = request_is id (codes "add-module") params lawful; params = params; has_params = refl; has_text = refl; has_no_flag = inl refl },
    )

-- ---- ids

signed_is_lawful : (z : ℤ) → IsLawfulId (id_number (of_integer z))
signed_is_lawful (pos n) = refl
signed_is_lawful (negsuc n) = refl

pub ids_are_lawful : (i : Id) → IsLawfulId (id_view i)
ids_are_lawful (id.Text t) = refl
ids_are_lawful (id.Unsigned n) = refl
ids_are_lawful (id.Signed z) = signed_is_lawful z
ids_are_lawful id.Null = refl
