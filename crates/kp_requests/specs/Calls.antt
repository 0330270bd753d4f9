-- What a JSON value asks, as a function of the value: the method's params, one call, a frame.
-- Source: JSON-RPC 2.0 (request objects, notifications, batches, error codes); the K Haskell backend's JSON-RPC documentation
-- (execute, implies, simplify, add-module).
use Rattle.std.specs.Prelude.{Bool, true, false, List, [], ◌∷◌, Option, Some, None, option_map, option_and_then, unwrap_or, if◌then◌else◌, codes}
use Rattle.std.specs.Str.{bytes_eq}
use Rattle.serde_json.specs.Data.{Data, null, boolean, number, string, array, object, Items, no_items, item}
use Rattle.serde_json.specs.Find.{get, as_str}
use Rattle.kp_kore.specs.Syntax.{Text}
use Rattle.kp_json.specs.Faults.{wrapped_reading}
use Rattle.kp_rpc.specs.Request.{RequestId, id_null}
use Rattle.kp_rpc.specs.Readings.{read_id, read_object, read_options, read_text}
use Rattle.kp_rpc.specs.Reply.{invalid_request, method_not_found, invalid_params}
use Rattle.kp_requests.specs.Requests.{Request, execute, implies, simplify, add_module, Asked, asks, refused, Call, Frame, single, batch, refused_whole}

-- ---- params: None where a member is missing or of another kind

-- an optional truth value: absent and null are false
abbrev pub read_flag : Option Data → Option Bool
read_flag None = Some false
read_flag (Some null) = Some false
read_flag (Some (boolean b)) = Some b
read_flag (Some (number n)) = None
read_flag (Some (string t)) = None
read_flag (Some (array ds)) = None
read_flag (Some (object o)) = None

-- state, an object; the optional members beside it
abbrev pub read_execute : Data → Option Request
read_execute p = option_and_then (λ s. option_map (execute (wrapped_reading s)) (read_options p)) (read_object (codes "state") p)

-- antecedent and consequent, objects; module, an optional text
abbrev pub read_implies : Data → Option Request
read_implies p =
    option_and_then (λ a. option_and_then (λ c. option_map (implies (wrapped_reading a) (wrapped_reading c)) (read_text (get (codes "module") p)))
    (read_object (codes "consequent") p)) (read_object (codes "antecedent") p)

-- state, an object; module, an optional text
abbrev pub read_simplify : Data → Option Request
read_simplify p = option_and_then (λ s. option_map (simplify (wrapped_reading s)) (read_text (get (codes "module") p))) (read_object (codes "state") p)

-- module, a text; name-as-id, an optional truth value
abbrev pub read_add_module : Data → Option Request
read_add_module p = option_and_then (λ t. option_map (add_module t) (read_flag (get (codes "name-as-id") p))) (option_and_then as_str (get (codes "module") p))

-- ---- calls

-- a request of the method, or invalid params
abbrev pub or_invalid_params : Option Request → Asked
or_invalid_params None = refused invalid_params
or_invalid_params (Some r) = asks r

-- what a method of this name is asked by its params, where these are an object
abbrev pub asked_of : Text → Option Data → Asked
asked_of method params =
    if bytes_eq method (codes "execute") then or_invalid_params (option_and_then read_execute params) else
    (if bytes_eq method (codes "implies") then or_invalid_params (option_and_then read_implies params) else
    (if bytes_eq method (codes "simplify") then or_invalid_params (option_and_then read_simplify params) else
    (if bytes_eq method (codes "add-module") then or_invalid_params (option_and_then read_add_module params) else refused method_not_found)))

-- the id of a call, where it has one; None where that is neither a text nor a whole number nor null
abbrev pub read_call_id : Option Data → Option (Option RequestId)
read_call_id None = Some None
read_call_id (Some d) = option_map Some (read_id d)

-- the id that the reply to any other value carries: its own where that is lawful, else null
abbrev pub echoed : Data → RequestId
echoed d = unwrap_or (option_and_then read_id (get (codes "id") d)) id_null

abbrev pub is_two : Option Text → Bool
is_two None = false
is_two (Some version) = bytes_eq version (codes "2.0")

abbrev pub invalid_call : Data → Call
invalid_call d = record { id = Some (echoed d); asked = refused invalid_request }

-- of a value: whether its version is 2.0, its method, its id
abbrev pub call_from : Data → Bool → Option Text → Option (Option RequestId) → Call
call_from d true (Some method) (Some id) = record { id = id; asked = asked_of method (read_object (codes "params") d) }
call_from d _ _ _ = invalid_call d

-- a request object has jsonrpc "2.0", a text method and, if any, a lawful id; any other value is an invalid request
abbrev pub read_call : Data → Call
read_call d = call_from d (is_two (option_and_then as_str (get (codes "jsonrpc") d))) (option_and_then as_str (get (codes "method") d)) (read_call_id (get (codes "id") d))

-- ---- frames

abbrev pub read_calls : Items → List Call
read_calls no_items = []
read_calls (item d ds) = read_call d ∷ read_calls ds

-- an array is a batch, whose members are calls; an empty one is an invalid request
abbrev pub read_batch : Items → Frame
read_batch no_items = refused_whole invalid_request
read_batch (item d ds) = batch (read_calls (item d ds))

abbrev pub read_frame : Data → Frame
read_frame (array ds) = read_batch ds
read_frame null = single (read_call null)
read_frame (boolean b) = single (read_call (boolean b))
read_frame (number n) = single (read_call (number n))
read_frame (string t) = single (read_call (string t))
read_frame (object o) = single (read_call (object o))
