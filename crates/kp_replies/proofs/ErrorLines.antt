-- The line that is written of an error that is found in reading a request tells the error's code and nothing else.
use Rattle.std.proofs.Common.{◌≡◌, [], ◌∷◌, Some, negsuc, refl, arith}
use Rattle.std.specs.Prelude.{ℤ, codes}
use Rattle.serde_json.specs.Data.{Data, Num, unsigned, negative, number, string}
use Rattle.serde_json.specs.Find.{as_i64}
use Rattle.kp_kore.specs.Syntax.{Text}
use Rattle.kp_json.specs.Members.{object_of}
use Rattle.kp_json.specs.Faults.{TreeFault, unknown_tag, missing_member, wrong_kind, wrong_format, nested_too_deep}
use Rattle.kp_rpc.specs.Request.{RequestId}
use Rattle.kp_signature.specs.Verify.{VerifyFault, unknown_sort, unknown_symbol, wrong_number, sort_differs, number_too_wide, term_too_deep, no_literal, sort_text}
use Rattle.kp_rpc.specs.Reply.{reply_bytes, RequestError, parse_error, invalid_request, method_not_found, invalid_params, no_module, no_pattern, not_verified, PatternRefusal, unverified, foreign_symbol, other_shape, kind_only, kind_and_name, tree_fault_data, verify_fault_data, pattern_data, error_parts, error_tree, error_reply}
use Rattle.kp_rpc.specs.Request.{IsReadId}
use Rattle.kp_rpc.proofs.ReadBack.{Back, number_back, negative_back, id_back}
use Rattle.kp_replies.specs.Read.{Method, ServerReply, failed}
use Rattle.kp_replies.specs.Replies.{IsReplyOf}
use Rattle.kp_replies.proofs.Back.{error_read_back, error_has_code}
use Rattle.kp_replies.proofs.Texts.{line_read, one_reply}

-- {"code":c,"message":m} and {"code":c,"data":d,"message":m}
abbrev plain_error : Num → Text → Data
plain_error code message = object_of ((codes "code", number code) ∷ (codes "message", string message) ∷ [])

abbrev full_error : Num → Data → Text → Data
full_error code details message = object_of ((codes "code", number code) ∷ (codes "data", details) ∷ (codes "message", string message) ∷ [])

plain_error_back : (code : Num) (message : Text) → Back (number code) → Back (plain_error code message)
plain_error_back code message n = record { numbers = (n.numbers, (tt, tt)); is = rw n.is refl }

full_error_back : (code : Num) (details : Data) (message : Text) → Back (number code) → Back details → Back (full_error code details message)
full_error_back code details message n h = record { numbers = (n.numbers, (h.numbers, (tt, tt))); is = rw (n.is, h.is) refl }

kind_back : (kind : Text) → Back (kind_only kind)
kind_back kind = record { numbers = (tt, tt); is = refl }

name_back : (kind name : Text) → Back (kind_and_name kind name)
name_back kind name = record { numbers = (tt, (tt, tt)); is = refl }

tree_fault_back : (f : TreeFault) → Back (tree_fault_data f)
tree_fault_back (unknown_tag name) = name_back (codes "J1") name
tree_fault_back (missing_member name) = name_back (codes "J2") name
tree_fault_back (wrong_kind name) = name_back (codes "J3") name
tree_fault_back (wrong_format name) = name_back (codes "J4") name
tree_fault_back nested_too_deep = kind_back (codes "J5")

verify_fault_back : (f : VerifyFault) → Back (verify_fault_data f)
verify_fault_back (unknown_sort s) = name_back (codes "V1") (sort_text s)
verify_fault_back (unknown_symbol name) = name_back (codes "V2") name
verify_fault_back (wrong_number name) = name_back (codes "V3") name
verify_fault_back (sort_differs expected found) = record { numbers = (tt, (tt, (tt, tt))); is = refl }
verify_fault_back (number_too_wide text) = name_back (codes "V5") text
verify_fault_back term_too_deep = kind_back (codes "V6")
verify_fault_back (no_literal text) = name_back (codes "V7") text

pattern_back : (f : PatternRefusal) → Back (pattern_data f)
pattern_back (unverified f) = verify_fault_back f
pattern_back (foreign_symbol name) = name_back (codes "T1") name
pattern_back other_shape = kind_back (codes "T2")

error_back : (e : RequestError) → Back (error_tree e)
error_back parse_error = plain_error_back (negative (negsuc 32699)) (codes "Parse error") (negative_back 32699 (omega arith))
error_back invalid_request = plain_error_back (negative (negsuc 32599)) (codes "Invalid Request") (negative_back 32599 (omega arith))
error_back method_not_found = plain_error_back (negative (negsuc 32600)) (codes "Method not found") (negative_back 32600 (omega arith))
error_back invalid_params = plain_error_back (negative (negsuc 32601)) (codes "Invalid params") (negative_back 32601 (omega arith))
error_back (no_module name) = full_error_back (unsigned 3) (object_of ((codes "name", string name) ∷ [])) (codes "Could not find module") (number_back 3 (omega arith)) (record { numbers = (tt, tt); is = refl })
error_back (no_pattern f) = full_error_back (unsigned 1) (tree_fault_data f) (codes "Could not parse pattern") (number_back 1 (omega arith)) (tree_fault_back f)
error_back (not_verified f) = full_error_back (unsigned 2) (pattern_data f) (codes "Could not verify pattern") (number_back 2 (omega arith)) (pattern_back f)

error_reply_back : (id : RequestId) (e : RequestError) → IsReadId id → Back (error_reply id e)
error_reply_back id e lawful =
    let i = id_back id lawful in
    let h = error_back e in
    record { numbers = (h.numbers, (i.numbers, (tt, tt))); is = rw (h.is, i.is) refl }

pub error_line : (method : Method) (id : RequestId) (e : RequestError) (r : ServerReply) → IsReadId id → IsReplyOf method (reply_bytes (error_reply id e)) r
    → (code : ℤ) × (as_i64 (error_parts e).code ≡ Some code) × (r ≡ failed code)
error_line method id e r lawful h =
    let c = error_has_code e in
    (c.0, c.1, one_reply method (error_reply id e) r (failed c.0) (error_read_back method id e c.0 c.1) (line_read method (error_reply id e) r (error_reply_back id e lawful) h))
