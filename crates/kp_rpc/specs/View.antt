-- The data of requests and replies that the Rust types stand for.
use Rattle.std.specs.Prelude.{◌≡◌, List, Option, Some, None, option_map, map, String, string_bytes, ⊤}
use Rattle.std.specs.declared.alloc.Global.{Global}
use Rattle.serde_json.specs.Data.{unsigned}
use Rattle.serde_json.specs.Find.{of_integer}
use Rattle.kp_kore.specs.Syntax.{Text}
use Rattle.kp_kore.specs.View.{view}
use Rattle.kp_rpc.specs.Request.{RequestId, id_text, id_number, id_null, ExecuteOptions}
use Rattle.kp_json.specs.View.{fault_view}
use Rattle.kp_signature.specs.Faults as faults
use Rattle.kp_signature.specs.Verify.{VerifyFault}
use Rattle.kp_signature.specs.declared.error.VerifyError.{VerifyError}
use Rattle.kp_signature.specs.declared.error.VerifyError.TheVariants as verify
use Rattle.kp_rpc.specs.Reply.{RequestError, parse_error, invalid_request, method_not_found, invalid_params, no_module, no_pattern, not_verified, PatternRefusal, unverified, foreign_symbol, other_shape}
use Rattle.kp_rpc.specs.declared.fault.PatternFault.{PatternFault}
use Rattle.kp_rpc.specs.declared.fault.PatternFault.TheVariants as pattern
use Rattle.kp_rpc.specs.declared.fault.StateFault.{StateFault}
use Rattle.kp_rpc.specs.declared.fault.StateFault.TheVariants as state
use Rattle.kp_rpc.specs.declared.id.Id.{Id}
use Rattle.kp_rpc.specs.declared.id.Id.TheVariants as id
use Rattle.kp_rpc.specs.declared.params.ExecuteOptions.{ExecuteOptions as RustOptions}
use Rattle.kp_rpc.specs.Questions as questions
use Rattle.kp_rpc.specs.declared.question.Question.{Question}
use Rattle.kp_rpc.specs.declared.question.Question.TheVariants as question
use Rattle.kp_rpc.specs.declared.request.Refusal.{Refusal}
use Rattle.kp_rpc.specs.declared.request.Refusal.TheVariants as refusal

abbrev pub id_view : Id → RequestId
id_view (id.Text t) = id_text (string_bytes t)
id_view (id.Unsigned n) = id_number (unsigned n)
id_view (id.Signed z) = id_number (of_integer z)
id_view id.Null = id_null

-- texts as their bytes
abbrev pub texts_view : List (String Global) → List Text
texts_view = map string_bytes

-- an optional text as its bytes
abbrev pub name_view : Option (String Global) → Option Text
name_view = option_map string_bytes

abbrev pub options_view : RustOptions → ExecuteOptions
options_view o = record { max_depth = o.max_depth; module_name = name_view o.module_name; cut_points = texts_view o.cut_points.items; terminals = texts_view o.terminals.items }

abbrev pub refusal_view : Refusal → RequestError
refusal_view refusal.ParseError = parse_error
refusal_view refusal.InvalidRequest = invalid_request
refusal_view refusal.MethodNotFound = method_not_found
refusal_view refusal.InvalidParams = invalid_params

-- what an error of verify tells; want of memory tells nothing, and no reply tells it
abbrev pub verify_error_view : VerifyError → PatternRefusal
verify_error_view e = told (faults.fault_view e)
  where
    told : Option VerifyFault → PatternRefusal
    told (Some f) = unverified f
    told None = other_shape

abbrev pub pattern_fault_view : PatternFault → PatternRefusal
pattern_fault_view (pattern.Unverified e) = verify_error_view e
pattern_fault_view (pattern.ForeignSymbol name) = foreign_symbol (string_bytes name)
pattern_fault_view pattern.OtherShape = other_shape

-- the fault tells something: want of memory is none, and isn't told
abbrev pub IsTold : PatternFault → Type 0
IsTold (pattern.Unverified e) = ¬ (e ≡ verify.Memory)
IsTold (pattern.ForeignSymbol name) = ⊤
IsTold pattern.OtherShape = ⊤

abbrev pub IsToldOfState : StateFault → Type 0
IsToldOfState (state.Json f) = ⊤
IsToldOfState (state.Verify f) = IsTold f
IsToldOfState (state.NoModule name) = ⊤

abbrev pub state_fault_view : StateFault → RequestError
state_fault_view (state.Json f) = no_pattern (fault_view f)
state_fault_view (state.Verify f) = not_verified (pattern_fault_view f)
state_fault_view (state.NoModule name) = no_module (string_bytes name)

abbrev pub question_view : Question → questions.Question
question_view (question.Execute i state options) = questions.to_execute (record { id = id_view i; state = view state; options = options_view options })
question_view (question.Implies i antecedent consequent name) = questions.to_imply (record { id = id_view i; antecedent = view antecedent; consequent = view consequent; module_name = name_view name })
question_view (question.AddModule i text) = questions.to_add (id_view i) (string_bytes text)
