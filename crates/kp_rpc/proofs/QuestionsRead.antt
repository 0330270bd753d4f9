-- What is read of the text of a question is that question.
use Rattle.std.proofs.Common.{◌≡◌, ℕ, List, Option, Some, None, option_map, pos, negsuc, refl, sym, ap, ◌∙◌, subst}
use Rattle.std.specs.Prelude.{codes}
use Rattle.serde_json.specs.Data.{Data, unsigned, negative, float, null, boolean, number, string, array, object, Members, no_members, put}
use Rattle.serde_json.specs.Read.{read}
use Rattle.serde_json.specs.Written.{compact_text}
use Rattle.serde_json.proofs.Views.{get_member-put}
use Rattle.kp_kore.specs.Syntax.{Text, KorePattern}
use Rattle.kp_json.specs.Members.{Has, HasText}
use Rattle.kp_json.specs.Trees.{SpellsWrapped}
use Rattle.kp_json.specs.Written.{two_parts, wrapped_pattern}
use Rattle.kp_json.proofs.SortsBack.{one_data, same_members}
use Rattle.kp_json.proofs.TreesBack.{tree_back}
use Rattle.kp_rpc.specs.Frame.{IsFrame}
use Rattle.kp_rpc.specs.Request.{IsReadId, RequestId, id_text, id_number, id_null, id_tree, IsIdTree, HasId, TextAt, ExecuteOptions, HasOptions, ExecuteRequest, IsExecute, execute_method, ImpliesRequest, IsImplies, implies_method, IsAddModule}
use Rattle.kp_rpc.specs.Questions.{IsLawfulId, to_execute, to_imply, to_add, with_text, execute_params, implies_params, question_tree, IsAskable}
use Rattle.kp_rpc.proofs.Asked.{put_other, text_here, named, options_are, state_is, request_members}
use Rattle.kp_rpc.proofs.CompactRead.{compact_reads}
use Rattle.kp_rpc.proofs.OptionsRead.{options_told, text_told}
use Rattle.kp_rpc.proofs.QuestionBack.{execute_back, implies_back, add_module_back}
use Rattle.kp_rpc.proofs.ReadBack.{plain_back}

from_some : {A : Type 0} (x y : A) → Some x ≡ Some y → x ≡ y
from_some x y e = cc e

one_object : (o : Members) (key : Text) (p q : Members) → Has o key (object p) → Has o key (object q) → p ≡ q
one_object o key p q h k = same_members p q (one_data o key (object p) (object q) h k)

-- ---- ids

pub lawful : (id : RequestId) → IsReadId id → IsLawfulId id
lawful (id_text t) h = refl
lawful (id_number (unsigned n)) h = refl
lawful (id_number (negative (pos n))) h = absurd h
lawful (id_number (negative (negsuc n))) h = refl
lawful (id_number (float x)) h = absurd h
lawful id_null h = refl

pub one_id : (d : Data) (i j : RequestId) → IsIdTree d i → IsIdTree d j → i ≡ j
one_id null i j h k = h ∙ sym k
one_id (boolean b) i j h k = absurd h
one_id (number (unsigned n)) i j h k = h ∙ sym k
one_id (number (negative z)) i j h k = h ∙ sym k
one_id (number (float x)) i j h k = absurd h
one_id (string t) i j h k = h ∙ sym k
one_id (array ds) i j h k = absurd h
one_id (object o) i j h k = absurd h

id_is : (m : Members) (i j : RequestId) → Has m (codes "id") (id_tree j) → IsReadId j → HasId m i → i ≡ j
id_is m i j here fits (d, has, is) = one_id (id_tree j) i j (subst (λ t. IsIdTree t i) (one_data m (codes "id") d (id_tree j) has here) is) (lawful j fits)

-- ---- patterns

pattern_is : (p q : KorePattern) (tree : Data) (o : Members) → wrapped_pattern p ≡ Some tree → object o ≡ tree → SpellsWrapped (object o) q → q ≡ p
pattern_is p q tree o e same h = tree_back p q tree e (subst (λ t. SpellsWrapped t q) same h)

-- ---- execute

-- the tree of a question, by the tree of its state
record Run (q : ExecuteRequest) (d : Data) : Type 0 where
  tree : Data
  written : wrapped_pattern q.state ≡ Some tree
  is : object (request_members q.id execute_method (execute_params q.options tree)) ≡ d

run_of : (q : ExecuteRequest) (x : Option Data) (d : Data) → wrapped_pattern q.state ≡ x
    → option_map (λ s. object (request_members q.id execute_method (execute_params q.options s))) x ≡ Some d → Run q d
run_of q None d is e = absurd (cc e)
run_of q (Some s) d is e = record { tree = s; written = is; is = from_some _ _ e }

options_is : (p : Members) (a b : ExecuteOptions) → HasOptions p a → HasOptions p b → a ≡ b
options_is p a b h k = from_some a b (sym (options_told p a h) ∙ options_told p b k)

abbrev request : RequestId → KorePattern → ExecuteOptions → ExecuteRequest
request i p a = record { id = i; state = p; options = a }

request_is : (i j : RequestId) (p q : KorePattern) (a b : ExecuteOptions) → i ≡ j → p ≡ q → a ≡ b → request i p a ≡ request j q b
request_is i j p q a b e f g = rw (e, f, g) refl

execute_is : (q r : ExecuteRequest) (tree : Data) → IsAskable (to_execute q) → wrapped_pattern q.state ≡ Some tree
    → IsExecute (request_members q.id execute_method (execute_params q.options tree)) r → r ≡ q
execute_is q r tree askable written asked =
    let params : Members = execute_params q.options tree in
    let m : Members = request_members q.id execute_method params in
    let h = asked.has_params in
    let same : h.params ≡ params = one_object m (codes "params") h.params params h.has_params refl in
    let has_state : Has params (codes "state") (object asked.state) = subst (λ p. Has p (codes "state") (object asked.state)) same h.has_state in
    let state : object asked.state ≡ tree = one_data params (codes "state") (object asked.state) tree has_state (state_is q.options tree) in
    let options : r.options ≡ q.options = options_is params r.options q.options (subst (λ p. HasOptions p r.options) same h.has_options) (options_are q.options tree) in
    request_is r.id q.id r.state q.state r.options q.options (id_is m r.id q.id refl askable.0 asked.is_request.has_id) (pattern_is q.state r.state tree asked.state written state asked.spells) options

pub execute_read : (q r : ExecuteRequest) (d : Data) (o : Members) (frame : List ℕ) → IsAskable (to_execute q) → question_tree (to_execute q) ≡ Some d → frame ≡ compact_text d → IsFrame frame (object o)
    → IsExecute o r → r ≡ q
execute_read q r d o frame askable e text framed asked =
    let run = run_of q (wrapped_pattern q.state) d refl e in
    let m : Members = request_members q.id execute_method (execute_params q.options run.tree) in
    let same : object o ≡ d = compact_reads d (object o) (plain_back (question_tree (to_execute q)) d (execute_back q askable) e) (ap read (sym text) ∙ framed.reads) in
    execute_is q r run.tree askable run.written (subst (λ n. IsExecute n r) (same_members o m (same ∙ sym run.is)) asked)

-- ---- implies

-- the tree of a question, by the trees of its sides
record Sides (q : ImpliesRequest) (d : Data) : Type 0 where
  left : Data
  right : Data
  left_written : wrapped_pattern q.antecedent ≡ Some left
  right_written : wrapped_pattern q.consequent ≡ Some right
  is : object (request_members q.id implies_method (implies_params q.module_name left right)) ≡ d

sides_of : (q : ImpliesRequest) (x y : Option Data) (d : Data) → wrapped_pattern q.antecedent ≡ x → wrapped_pattern q.consequent ≡ y
    → two_parts (λ a c. object (request_members q.id implies_method (implies_params q.module_name a c))) x y ≡ Some d → Sides q d
sides_of q None y d is also e = absurd (cc e)
sides_of q (Some a) None d is also e = absurd (cc e)
sides_of q (Some a) (Some c) d is also e = record { left = a; right = c; left_written = is; right_written = also; is = from_some _ _ e }

antecedent_here : (name : Option Text) (a c : Data) → Has (implies_params name a c) (codes "antecedent") a
antecedent_here name a c = get_member-put (codes "antecedent") a (put (codes "consequent") c (with_text named name no_members))

consequent_here : (name : Option Text) (a c : Data) → Has (implies_params name a c) (codes "consequent") c
consequent_here name a c =
    let inner : Members = with_text named name no_members in
    put_other (codes "consequent") (codes "antecedent") a (put (codes "consequent") c inner) refl ∙ get_member-put (codes "consequent") c inner

module_here : (name : Option Text) (a c : Data) → TextAt (implies_params name a c) named name
module_here name a c =
    let inner : Members = with_text named name no_members in
    text_here named name no_members (implies_params name a c) refl (put_other named (codes "antecedent") a (put (codes "consequent") c inner) refl ∙ put_other named (codes "consequent") c inner refl)

name_is : (p : Members) (x y : Option Text) → TextAt p named x → TextAt p named y → x ≡ y
name_is p x y h k = from_some x y (sym (text_told p named x h) ∙ text_told p named y k)

abbrev implication : RequestId → KorePattern → KorePattern → Option Text → ImpliesRequest
implication i p u a = record { id = i; antecedent = p; consequent = u; module_name = a }

implication_is : (i j : RequestId) (p q u v : KorePattern) (a b : Option Text) → i ≡ j → p ≡ q → u ≡ v → a ≡ b → implication i p u a ≡ implication j q v b
implication_is i j p q u v a b e f g h = rw (e, f, g, h) refl

implies_is : (q r : ImpliesRequest) (left right : Data) → IsAskable (to_imply q) → wrapped_pattern q.antecedent ≡ Some left → wrapped_pattern q.consequent ≡ Some right
    → IsImplies (request_members q.id implies_method (implies_params q.module_name left right)) r → r ≡ q
implies_is q r left right askable left_written right_written asked =
    let params : Members = implies_params q.module_name left right in
    let m : Members = request_members q.id implies_method params in
    let h = asked.has_sides in
    let same : h.params ≡ params = one_object m (codes "params") h.params params h.has_params refl in
    let has_left : Has params (codes "antecedent") (object asked.antecedent) = subst (λ p. Has p (codes "antecedent") (object asked.antecedent)) same h.has_antecedent in
    let has_right : Has params (codes "consequent") (object asked.consequent) = subst (λ p. Has p (codes "consequent") (object asked.consequent)) same h.has_consequent in
    let a : object asked.antecedent ≡ left = one_data params (codes "antecedent") (object asked.antecedent) left has_left (antecedent_here q.module_name left right) in
    let c : object asked.consequent ≡ right = one_data params (codes "consequent") (object asked.consequent) right has_right (consequent_here q.module_name left right) in
    let name : r.module_name ≡ q.module_name = name_is params r.module_name q.module_name (subst (λ p. TextAt p named r.module_name) same h.has_module) (module_here q.module_name left right) in
    implication_is r.id q.id r.antecedent q.antecedent r.consequent q.consequent r.module_name q.module_name (id_is m r.id q.id refl askable asked.is_request.has_id)
    (pattern_is q.antecedent r.antecedent left asked.antecedent left_written a asked.spells_antecedent)
    (pattern_is q.consequent r.consequent right asked.consequent right_written c asked.spells_consequent) name

pub implies_read : (q r : ImpliesRequest) (d : Data) (o : Members) (frame : List ℕ) → IsAskable (to_imply q) → question_tree (to_imply q) ≡ Some d → frame ≡ compact_text d → IsFrame frame (object o)
    → IsImplies o r → r ≡ q
implies_read q r d o frame askable e text framed asked =
    let sides = sides_of q (wrapped_pattern q.antecedent) (wrapped_pattern q.consequent) d refl refl e in
    let m : Members = request_members q.id implies_method (implies_params q.module_name sides.left sides.right) in
    let same : object o ≡ d = compact_reads d (object o) (plain_back (question_tree (to_imply q)) d (implies_back q askable) e) (ap read (sym text) ∙ framed.reads) in
    implies_is q r sides.left sides.right askable sides.left_written sides.right_written (subst (λ n. IsImplies n r) (same_members o m (same ∙ sym sides.is)) asked)

-- ---- add-module

-- the tree of the question itself is read
pub add_module_tree_read : (id : RequestId) (text : Text) (d e : Data) (frame : List ℕ) → IsAskable (to_add id text) → question_tree (to_add id text) ≡ Some d → frame ≡ compact_text d → read frame ≡ Some e → e ≡ d
add_module_tree_read id text d e frame askable made written reads =
    compact_reads d e (plain_back (question_tree (to_add id text)) d (add_module_back id text askable) made) (ap read (sym written) ∙ reads)

pub add_module_frame_read : (id : RequestId) (text : Text) (d e : Data) (frame : List ℕ) → IsAskable (to_add id text) → question_tree (to_add id text) ≡ Some d → frame ≡ compact_text d → IsFrame frame e → e ≡ d
add_module_frame_read id text d e frame askable made written framed = add_module_tree_read id text d e frame askable made written framed.reads

add_module_is : (id i : RequestId) (text t : Text) → IsAskable (to_add id text) → IsAddModule (request_members id (codes "add-module") (put named (string text) no_members)) i t → (i ≡ id) × (t ≡ text)
add_module_is id i text t askable asked =
    let params : Members = put named (string text) no_members in
    let m : Members = request_members id (codes "add-module") params in
    let same : asked.params ≡ params = one_object m (codes "params") asked.params params asked.has_params refl in
    let here : Some (string text) ≡ Some (string t) = subst (λ p. HasText p named t) same asked.has_text in
    (id_is m i id refl askable asked.is_request.has_id, cc here)

pub add_module_read : (id i : RequestId) (text t : Text) (d : Data) (o : Members) (frame : List ℕ) → IsAskable (to_add id text) → question_tree (to_add id text) ≡ Some d → frame ≡ compact_text d → IsFrame frame (object o)
    → IsAddModule o i t → (i ≡ id) × (t ≡ text)
add_module_read id i text t d o frame askable e written framed asked =
    let m : Members = request_members id (codes "add-module") (put named (string text) no_members) in
    let same : object o ≡ object m = add_module_tree_read id text d (object o) frame askable e written framed.reads ∙ sym (from_some _ _ e) in
    add_module_is id i text t askable (subst (λ n. IsAddModule n i t) (same_members o m same) asked)
