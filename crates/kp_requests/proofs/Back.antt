-- The tree that a client writes of a request asks that request.
use Rattle.std.proofs.Common.{◌≡◌, ℕ, List, true, Bool, false, Option, Some, None, option_map, option_and_then, refl, sym, ap, ◌∙◌}
use Rattle.std.specs.Prelude.{codes}
use Rattle.serde_json.specs.Data.{Data, unsigned, negative, float, object, Members}
use Rattle.serde_json.specs.Written.{compact_text}
use Rattle.kp_kore.specs.Syntax.{Text, KorePattern}
use Rattle.kp_json.specs.Faults.{read, wrapped_reading}
use Rattle.kp_json.specs.Trees.{SpellsWrapped}
use Rattle.kp_json.specs.Written.{two_parts, wrapped_pattern}
use Rattle.kp_json.proofs.Complete.{wrapped_complete}
use Rattle.kp_json.proofs.RoundTrip.{wrapped_written}
use Rattle.kp_rpc.specs.Request.{RequestId, id_text, id_number, id_null, id_tree, ExecuteRequest, ImpliesRequest, execute_method, implies_method}
use Rattle.kp_rpc.specs.Readings.{read_id, read_options, if_object}
use Rattle.kp_rpc.specs.Questions.{IsAskable, IsLawfulId, to_execute, to_imply, to_add, execute_params, implies_params, request_object, question_tree}
use Rattle.kp_rpc.proofs.Asked.{options_are, state_is, object_spelled}
use Rattle.kp_rpc.proofs.OptionsRead.{options_told}
use Rattle.kp_rpc.proofs.QuestionsRead.{lawful, add_module_tree_read}
use Rattle.kp_requests.specs.Frames.{IsJson}
use Rattle.kp_requests.specs.Requests.{Request, execute, implies, simplify, add_module, asks, Frame, single}
use Rattle.kp_requests.specs.Calls.{call_from, asked_of, or_invalid_params, read_frame, read_execute, read_implies, read_simplify}
use Rattle.kp_requests.specs.Asked.{simplify_params, simplify_tree, add_module_params, add_module_tree}

from_some : {A : Type 0} (x y : A) → Some x ≡ Some y → x ≡ y
from_some x y e = cc e

-- ---- calls

id_back : (id : RequestId) → IsLawfulId id → read_id (id_tree id) ≡ Some id
id_back (id_text t) h = refl
id_back (id_number (unsigned n)) h = refl
id_back (id_number (negative z)) h = refl
id_back (id_number (float x)) h = absurd h
id_back id_null h = refl

-- the frame of one request
abbrev pub asks_alone : RequestId → Request → Frame
asks_alone id r = single (record { id = Some id; asked = asks r })

call_back : (id : RequestId) (method : Text) (params : Members) (r : Request) → IsLawfulId id → asked_of method (Some (object params)) ≡ asks r
    → read_frame (request_object id method params) ≡ asks_alone id r
call_back id method params r lawful e =
    ap (λ x. single (call_from (request_object id method params) true (Some method) (option_map Some x))) (id_back id lawful)
    ∙ ap (λ a. single (record { id = Some id; asked = a })) e

-- ---- patterns

-- the tree that is written of a spelled pattern is an object, of which the pattern is read
pub record ReadAs (p : KorePattern) : Type 0 where
  pub members : Members
  pub written : wrapped_pattern p ≡ Some (object members)
  pub reads : wrapped_reading (object members) ≡ read p

read_as : (d : Data) (p : KorePattern) → SpellsWrapped d p → ReadAs p
read_as d p h =
    let w = wrapped_written d p h in
    let o = object_spelled w.0 p w.2 in
    record { members = o.0; written = w.1 ∙ ap Some o.1; reads = ap wrapped_reading (sym o.1) ∙ wrapped_complete w.0 p w.2 }

-- ---- execute

pub execute_back : (q : ExecuteRequest) (tree d : Data) → IsLawfulId q.id → SpellsWrapped tree q.state → question_tree (to_execute q) ≡ Some d
    → read_frame d ≡ asks_alone q.id (execute (read q.state) q.options)
execute_back q tree d lawful spelled e =
    let w = read_as tree q.state spelled in
    let s : Data = object w.members in
    let params : Members = execute_params q.options s in
    let made : question_tree (to_execute q) ≡ Some (request_object q.id execute_method params) = ap (option_map (λ x. request_object q.id execute_method (execute_params q.options x))) w.written in
    let options : read_options (object params) ≡ Some q.options = options_told params q.options (options_are q.options s) in
    let asked : read_execute (object params) ≡ Some (execute (read q.state) q.options) =
    ap (λ x. option_and_then (λ t. option_map (execute (wrapped_reading t)) (read_options (object params))) (option_and_then if_object x)) (state_is q.options s)
    ∙ ap (option_map (execute (wrapped_reading s))) options ∙ ap (λ r. Some (execute r q.options)) w.reads in
    let same : request_object q.id execute_method params ≡ d = from_some _ _ (sym made ∙ e) in
    ap read_frame (sym same) ∙ call_back q.id execute_method params (execute (read q.state) q.options) lawful (ap or_invalid_params asked)

-- ---- implies

sides_back : (p q : KorePattern) (a c : Members) (name : Option Text) → wrapped_reading (object a) ≡ read p → wrapped_reading (object c) ≡ read q
    → read_implies (object (implies_params name (object a) (object c))) ≡ Some (implies (read p) (read q) name)
sides_back p q a c None h k = ap (λ x. Some (implies x (wrapped_reading (object c)) None)) h ∙ ap (λ y. Some (implies (read p) y None)) k
sides_back p q a c (Some m) h k = ap (λ x. Some (implies x (wrapped_reading (object c)) (Some m))) h ∙ ap (λ y. Some (implies (read p) y (Some m))) k

pub implies_back : (q : ImpliesRequest) (tree other d : Data) → IsLawfulId q.id → SpellsWrapped tree q.antecedent → SpellsWrapped other q.consequent → question_tree (to_imply q) ≡ Some d
    → read_frame d ≡ asks_alone q.id (implies (read q.antecedent) (read q.consequent) q.module_name)
implies_back q tree other d lawful spelled also e =
    let left = read_as tree q.antecedent spelled in
    let right = read_as other q.consequent also in
    let make : Data → Data → Data = λ a c. request_object q.id implies_method (implies_params q.module_name a c) in
    let params : Members = implies_params q.module_name (object left.members) (object right.members) in
    let made : question_tree (to_imply q) ≡ Some (request_object q.id implies_method params) =
    ap (λ x. two_parts make x (wrapped_pattern q.consequent)) left.written ∙ ap (two_parts make (Some (object left.members))) right.written in
    let asked = sides_back q.antecedent q.consequent left.members right.members q.module_name left.reads right.reads in
    let same : request_object q.id implies_method params ≡ d = from_some _ _ (sym made ∙ e) in
    ap read_frame (sym same) ∙ call_back q.id implies_method params (implies (read q.antecedent) (read q.consequent) q.module_name) lawful (ap or_invalid_params asked)

-- ---- simplify

state_back : (p : KorePattern) (s : Members) (name : Option Text) → wrapped_reading (object s) ≡ read p → read_simplify (object (simplify_params name (object s))) ≡ Some (simplify (read p) name)
state_back p s None h = ap (λ x. Some (simplify x None)) h
state_back p s (Some m) h = ap (λ x. Some (simplify x (Some m))) h

pub simplify_back : (id : RequestId) (p : KorePattern) (name : Option Text) (tree d : Data) → IsLawfulId id → SpellsWrapped tree p → simplify_tree id p name ≡ Some d
    → read_frame d ≡ asks_alone id (simplify (read p) name)
simplify_back id p name tree d lawful spelled e =
    let w = read_as tree p spelled in
    let params : Members = simplify_params name (object w.members) in
    let made : simplify_tree id p name ≡ Some (request_object id (codes "simplify") params) = ap (option_map (λ x. request_object id (codes "simplify") (simplify_params name x))) w.written in
    let same : request_object id (codes "simplify") params ≡ d = from_some _ _ (sym made ∙ e) in
    ap read_frame (sym same) ∙ call_back id (codes "simplify") params (simplify (read p) name) lawful (ap or_invalid_params (state_back p w.members name w.reads))

-- ---- add-module

pub add_module_back : (id : RequestId) (text : Text) (name_as_id : Bool) → IsLawfulId id → read_frame (add_module_tree id text name_as_id) ≡ asks_alone id (add_module text name_as_id)
add_module_back id text false lawful = call_back id (codes "add-module") (add_module_params text false) (add_module text false) lawful refl
add_module_back id text true lawful = call_back id (codes "add-module") (add_module_params text true) (add_module text true) lawful refl

-- so does what is read of the text of a question to add a module
pub question_to_add_read : (id : RequestId) (text : Text) (d e : Data) (frame : List ℕ) → IsAskable (to_add id text) → question_tree (to_add id text) ≡ Some d → frame ≡ compact_text d → IsJson frame e
    → read_frame e ≡ asks_alone id (add_module text false)
question_to_add_read id text d e frame askable made written json =
    ap read_frame (add_module_tree_read id text d e frame askable made written json.reads ∙ sym (from_some _ _ made)) ∙ add_module_back id text false (lawful id askable)
