-- Replies as JSON trees, and their bytes: errors, and what a result stands in.
-- Source: JSON-RPC 2.0 (response objects, error codes); the K Haskell backend's JSON-RPC documentation (execute
-- and implies, their codes and data).
use Rattle.std.specs.Prelude.{ℕ, negsuc, List, [], ◌∷◌, ◌++◌, Option, Some, None, codes}
use Rattle.serde_json.specs.Data.{Data, Num, unsigned, negative, number, string}
use Rattle.serde_json.specs.Written.{compact_text}
use Rattle.kp_kore.specs.Syntax.{Text}
use Rattle.kp_json.specs.Members.{object_of}
use Rattle.kp_json.specs.Faults.{TreeFault, unknown_tag, missing_member, wrong_kind, wrong_format, nested_too_deep}
use Rattle.kp_signature.specs.Verify.{VerifyFault, unknown_sort, unknown_symbol, wrong_number, sort_differs, number_too_wide, term_too_deep, no_literal, sort_text}
use Rattle.kp_rpc.specs.Request.{RequestId, id_tree}

-- ---- errors

-- why a pattern has no place in a request: its first verify fault; a foreign symbol; a shape that isn't read. (What is wrong with a
-- tree that spells no pattern is a TreeFault.)
pub data PatternRefusal : Type 0 where
  unverified : VerifyFault → PatternRefusal
  foreign_symbol : Text → PatternRefusal
  other_shape : PatternRefusal

pub data RequestError : Type 0 where
  parse_error : RequestError
  invalid_request : RequestError
  method_not_found : RequestError
  invalid_params : RequestError
  no_module : Text → RequestError
  no_pattern : TreeFault → RequestError
  not_verified : PatternRefusal → RequestError

abbrev pub kind_only : Text → Data
kind_only kind = object_of ((codes "kind", string kind) ∷ [])

abbrev pub kind_and_name : Text → Text → Data
kind_and_name kind name = object_of ((codes "kind", string kind) ∷ (codes "name", string name) ∷ [])

abbrev pub tree_fault_data : TreeFault → Data
tree_fault_data (unknown_tag name) = kind_and_name (codes "J1") name
tree_fault_data (missing_member name) = kind_and_name (codes "J2") name
tree_fault_data (wrong_kind name) = kind_and_name (codes "J3") name
tree_fault_data (wrong_format name) = kind_and_name (codes "J4") name
tree_fault_data nested_too_deep = kind_only (codes "J5")

abbrev pub verify_fault_data : VerifyFault → Data
verify_fault_data (unknown_sort s) = kind_and_name (codes "V1") (sort_text s)
verify_fault_data (unknown_symbol name) = kind_and_name (codes "V2") name
verify_fault_data (wrong_number name) = kind_and_name (codes "V3") name
verify_fault_data (sort_differs expected found) = object_of ((codes "expected", string (sort_text expected)) ∷ (codes "found", string (sort_text found)) ∷ (codes "kind", string (codes "V4")) ∷ [])
verify_fault_data (number_too_wide text) = kind_and_name (codes "V5") text
verify_fault_data term_too_deep = kind_only (codes "V6")
verify_fault_data (no_literal text) = kind_and_name (codes "V7") text

abbrev pub pattern_data : PatternRefusal → Data
pattern_data (unverified f) = verify_fault_data f
pattern_data (foreign_symbol name) = kind_and_name (codes "T1") name
pattern_data other_shape = kind_only (codes "T2")

-- a code, its message, and data where there are any
pub record ErrorParts : Type 0 where
  pub code : Num
  pub message : Text
  pub details : Option Data

abbrev pub error_parts : RequestError → ErrorParts
error_parts parse_error = record { code = negative (negsuc 32699); message = codes "Parse error"; details = None }
error_parts invalid_request = record { code = negative (negsuc 32599); message = codes "Invalid Request"; details = None }
error_parts method_not_found = record { code = negative (negsuc 32600); message = codes "Method not found"; details = None }
error_parts invalid_params = record { code = negative (negsuc 32601); message = codes "Invalid params"; details = None }
error_parts (no_module name) = record { code = unsigned 3; message = codes "Could not find module"; details = Some (object_of ((codes "name", string name) ∷ [])) }
error_parts (no_pattern f) = record { code = unsigned 1; message = codes "Could not parse pattern"; details = Some (tree_fault_data f) }
error_parts (not_verified f) = record { code = unsigned 2; message = codes "Could not verify pattern"; details = Some (pattern_data f) }

-- {"code":c,"data":d,"message":m}
abbrev pub error_tree : RequestError → Data
error_tree e = with_details (error_parts e).details
  where
    with_details : Option Data → Data
    with_details None = object_of ((codes "code", number (error_parts e).code) ∷ (codes "message", string (error_parts e).message) ∷ [])
    with_details (Some d) = object_of ((codes "code", number (error_parts e).code) ∷ (codes "data", d) ∷ (codes "message", string (error_parts e).message) ∷ [])

-- ---- replies

-- {"id":i,"jsonrpc":"2.0","result":R} and {"error":E,"id":i,"jsonrpc":"2.0"}
abbrev pub result_reply : RequestId → Data → Data
result_reply id result = object_of ((codes "id", id_tree id) ∷ (codes "jsonrpc", string (codes "2.0")) ∷ (codes "result", result) ∷ [])

abbrev pub error_reply : RequestId → RequestError → Data
error_reply id e = object_of ((codes "error", error_tree e) ∷ (codes "id", id_tree id) ∷ (codes "jsonrpc", string (codes "2.0")) ∷ [])

-- the compact text with sorted keys, and one line feed
abbrev pub reply_bytes : Data → List ℕ
reply_bytes d = compact_text d ++ 10 ∷ []
