-- Errors of implies, simplify and add-module beside those that are found in reading a request, with their data.
-- Source: JSON-RPC 2.0 (error objects); the K Haskell backend's JSON-RPC documentation (error codes); this project.
use Rattle.std.specs.Prelude.{ℕ, [], ◌∷◌, Option, Some, None, codes}
use Rattle.std.specs.Option.{option_map}
use Rattle.serde_json.specs.Data.{Data, unsigned, number, string, object, Members, no_members, put}
use Rattle.kp_kore.specs.Syntax.{Text}
use Rattle.kp_json.specs.Members.{object_of}
use Rattle.kp_rpc.specs.Request.{RequestId, id_tree}
use Rattle.kp_rpc.specs.Reply.{kind_only, kind_and_name}
use Rattle.kp_results.specs.Results.{Weight, bits, literals, product, depth, Limit, weighed, wide_call, Undecided, predicate, limit}
use Rattle.kp_replies.specs.Written.{with_pattern}

-- an unsound question to implies: a bound variable that is in no term position; a side without one term, or sides of two
-- sorts; a free variable of two sorts, or with the name of a bound one
pub data SidesFault : Type 0 where
  not_in_a_term : Text → SidesFault
  not_one_term : SidesFault
  two_meanings : Text → SidesFault

-- a text that is no module to add: a token at fault, an import that isn't found, an axiom that doesn't fit the signature,
-- a sentence of another kind, a full book; the first two numbers are the place and the kind of the token
pub data AdditionFault : Type 0 where
  bad_text : ℕ → ℕ → AdditionFault
  unknown_import : Text → AdditionFault
  bad_axiom : ℕ → AdditionFault
  bad_sentence : ℕ → AdditionFault
  full_book : AdditionFault

pub data Failure : Type 0 where
  bad_sides : SidesFault → Failure
  undecided : Undecided → Failure
  bad_module : AdditionFault → Failure
  -- the entry that binds the name to another text; 0 is the definition
  duplicate : ℕ → Text → Failure

-- ---- data

abbrev pub sides_data : SidesFault → Data
sides_data (not_in_a_term name) = kind_and_name (codes "I1") name
sides_data not_one_term = kind_only (codes "I2")
sides_data (two_meanings name) = kind_and_name (codes "I3") name

abbrev pub weight_name : Weight → Text
weight_name bits = codes "bits"
weight_name literals = codes "literals"
weight_name product = codes "product"
weight_name depth = codes "depth"

-- {"name":w,"number":n} and {"first":a,"name":"number","second":b,"symbol":s}
abbrev pub limit_tree : Limit → Data
limit_tree (weighed w n) = object_of ((codes "name", string (weight_name w)) ∷ (codes "number", number (unsigned n)) ∷ [])
limit_tree (wide_call first second symbol) =
    object_of ((codes "first", string first) ∷ (codes "name", string (codes "number")) ∷ (codes "second", string second) ∷ (codes "symbol", string symbol) ∷ [])

abbrev pub with_limit : Option Limit → Members → Members
with_limit None o = o
with_limit (Some l) o = put (codes "limit") (limit_tree l) o

-- {"unknown-predicate":K}, with "limit":L where there is one; {"limit":L}
abbrev pub undecided_data : Undecided → Option Data
undecided_data (predicate p l) = option_map object (with_pattern (codes "unknown-predicate") p (with_limit l no_members))
undecided_data (limit l) = Some (object_of ((codes "limit", limit_tree l) ∷ []))

abbrev pub addition_data : AdditionFault → Data
addition_data (bad_text at kind) = object_of ((codes "at", number (unsigned at)) ∷ (codes "kind", string (codes "text")) ∷ (codes "number", number (unsigned kind)) ∷ [])
addition_data (unknown_import name) = kind_and_name (codes "M1") name
addition_data (bad_axiom n) = object_of ((codes "axiom", number (unsigned n)) ∷ (codes "kind", string (codes "M6")) ∷ [])
addition_data (bad_sentence n) = object_of ((codes "kind", string (codes "M7")) ∷ (codes "sentence", number (unsigned n)) ∷ [])
addition_data full_book = kind_only (codes "M9")

abbrev pub failure_data : Failure → Option Data
failure_data (bad_sides f) = Some (sides_data f)
failure_data (undecided u) = undecided_data u
failure_data (bad_module f) = Some (addition_data f)
failure_data (duplicate n name) = Some (object_of ((codes "entry", number (unsigned n)) ∷ (codes "name", string name) ∷ []))

-- ---- codes and messages

abbrev pub failure_code : Failure → ℕ
failure_code (bad_sides f) = 4
failure_code (undecided u) = 5
failure_code (bad_module f) = 8
failure_code (duplicate n name) = 9

abbrev pub failure_message : Failure → Text
failure_message (bad_sides f) = codes "Implication check error"
failure_message (undecided u) = codes "Undecided"
failure_message (bad_module f) = codes "Invalid module"
failure_message (duplicate n name) = codes "Duplicate module"

-- {"code":c,"data":d,"message":m}, and {"error":E,"id":i,"jsonrpc":"2.0"}
abbrev pub failure_error : Failure → Data → Data
failure_error f d = object_of ((codes "code", number (unsigned (failure_code f))) ∷ (codes "data", d) ∷ (codes "message", string (failure_message f)) ∷ [])

abbrev pub failed_reply : RequestId → Data → Data
failed_reply id error = object_of ((codes "error", error) ∷ (codes "id", id_tree id) ∷ (codes "jsonrpc", string (codes "2.0")) ∷ [])

abbrev pub failure_reply : RequestId → Failure → Option Data
failure_reply id f = option_map (λ d. failed_reply id (failure_error f d)) (failure_data f)
