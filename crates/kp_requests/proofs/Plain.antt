-- The text that is written of a request is exact, since there is no float in it.
use Rattle.std.proofs.Common.{◌≡◌, ℕ, ◌≤◌, List, length, Bool, true, false, Option, Some, None, option_map, refl, sym, ap, ◌∙◌, subst, arith}
use Rattle.std.specs.Prelude.{codes, IsUtf8}
use Rattle.serde_json.specs.Data.{Data, depth}
use Rattle.serde_json.specs.Read.{read, max_depth}
use Rattle.serde_json.specs.Written.{has_float, members_have_float, compact_text}
use Rattle.kp_kore.specs.Syntax.{Text, KorePattern}
use Rattle.kp_json.specs.Written.{wrapped_pattern}
use Rattle.kp_frames.specs.Frames.{most_frame}
use Rattle.kp_rpc.specs.Request.{RequestId, id_text, id_number, id_null}
use Rattle.kp_rpc.specs.Questions.{IsLawfulId, request_object}
use Rattle.kp_rpc.specs.View.{id_view}
use Rattle.kp_rpc.specs.declared.id.Id.{Id}
use Rattle.kp_rpc.proofs.Asked.{ids_are_lawful}
use Rattle.kp_rpc.proofs.Floats.{IsPlain, one_plain, wrapped_is_plain, plain_is}
use Rattle.kp_rpc.proofs.QuestionText.{request_plain}
use Rattle.kp_requests.specs.Asked.{simplify_params, simplify_tree, add_module_params, add_module_tree}
use Rattle.kp_requests.specs.Frames.{IsJson}

state_plain : (name : Option Text) (s : Data) → has_float s ≡ false → members_have_float (simplify_params name s) ≡ false
state_plain None s h = rw h refl
state_plain (Some m) s h = rw h refl

simplify_plain : (id : RequestId) (p : KorePattern) (name : Option Text) → IsLawfulId id → IsPlain (simplify_tree id p name)
simplify_plain id p name lawful =
    one_plain (λ s. request_object id (codes "simplify") (simplify_params name s)) (wrapped_pattern p)
    (λ s h. request_plain id (codes "simplify") (simplify_params name s) lawful (state_plain name s h)) (wrapped_is_plain p)

pub simplify_written : (i : Id) (p : KorePattern) (name : Option Text) (d : Data) (text : List ℕ) → Some d ≡ simplify_tree (id_view i) p name → (has_float d ≡ false → text ≡ compact_text d)
    → Some text ≡ option_map compact_text (simplify_tree (id_view i) p name)
simplify_written i p name d text e h =
    ap Some (h (plain_is (simplify_tree (id_view i) p name) d (simplify_plain (id_view i) p name (ids_are_lawful i)) e)) ∙ ap (option_map compact_text) e

from_some : (d e : Data) → Some d ≡ Some e → d ≡ e
from_some d e same = cc same

pub simplify_framed : (x : Option Data) (t d : Data) (text : List ℕ) → Some t ≡ x → x ≡ Some d → (depth t ≤ max_depth → read text ≡ Some t) → IsUtf8 text
    → depth d ≤ max_depth → length text ≤ most_frame → IsJson text d
simplify_framed x t d text e f back utf8 shallow fits =
    let same : t ≡ d = from_some t d (e ∙ f) in
    record { fits = fits; utf8 = utf8; reads = back (subst (λ y. depth y ≤ max_depth) (sym same) shallow) ∙ ap Some same }

-- ---- add-module

pub add_module_plain : (id : RequestId) (text : Text) (name_as_id : Bool) → IsLawfulId id → has_float (add_module_tree id text name_as_id) ≡ false
add_module_plain id text false lawful = request_plain id (codes "add-module") (add_module_params text false) lawful refl
add_module_plain id text true lawful = request_plain id (codes "add-module") (add_module_params text true) lawful refl

-- an object of flat members in an object
add_module_shallow : (id : RequestId) (text : Text) (name_as_id : Bool) → depth (add_module_tree id text name_as_id) ≤ max_depth
add_module_shallow (id_text t) text false = omega arith
add_module_shallow (id_text t) text true = omega arith
add_module_shallow (id_number n) text false = omega arith
add_module_shallow (id_number n) text true = omega arith
add_module_shallow id_null text false = omega arith
add_module_shallow id_null text true = omega arith

pub add_module_framed : (id : RequestId) (name : Text) (name_as_id : Bool) (d : Data) (text : List ℕ) → d ≡ add_module_tree id name name_as_id → (depth d ≤ max_depth → read text ≡ Some d) → IsUtf8 text
    → length text ≤ most_frame → IsJson text (add_module_tree id name name_as_id)
add_module_framed id name name_as_id d text is back utf8 fits =
    record { fits = fits; utf8 = utf8; reads = back (subst (λ x. depth x ≤ max_depth) (sym is) (add_module_shallow id name name_as_id)) ∙ ap Some is }

pub add_module_written : (i : Id) (name : Text) (name_as_id : Bool) (d : Data) (text : List ℕ) → d ≡ add_module_tree (id_view i) name name_as_id → (has_float d ≡ false → text ≡ compact_text d)
    → text ≡ compact_text (add_module_tree (id_view i) name name_as_id)
add_module_written i name name_as_id d text is h = h (ap has_float is ∙ add_module_plain (id_view i) name name_as_id (ids_are_lawful i)) ∙ ap compact_text is
