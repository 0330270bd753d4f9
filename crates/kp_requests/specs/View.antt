-- The data of calls that the Rust types stand for.
use Rattle.std.specs.Prelude.{List, map, option_map, string_bytes}
use Rattle.kp_kore.specs.Syntax.{KorePattern}
use Rattle.kp_kore.specs.View.{view}
use Rattle.kp_json.specs.Faults as faults
use Rattle.kp_json.specs.View.{fault_view}
use Rattle.kp_rpc.specs.View.{id_view, name_view, options_view, refusal_view}
use Rattle.kp_requests.specs.Requests as requests
use Rattle.kp_requests.specs.declared.request.Reading.{Reading}
use Rattle.kp_requests.specs.declared.request.Reading.TheVariants as reading
use Rattle.kp_requests.specs.declared.request.Request.{Request}
use Rattle.kp_requests.specs.declared.request.Request.TheVariants as request
use Rattle.kp_requests.specs.declared.call.Asked.{Asked}
use Rattle.kp_requests.specs.declared.call.Asked.TheVariants as asked
use Rattle.kp_requests.specs.declared.call.Call.{Call}
use Rattle.kp_requests.specs.declared.frame.Parsed.{Parsed}
use Rattle.kp_requests.specs.declared.frame.Parsed.TheVariants as parsed

abbrev pub reading_view : Reading → faults.Reading KorePattern
reading_view (reading.Pattern p) = faults.read (view p)
reading_view (reading.Fault f) = faults.fault (fault_view f)

abbrev pub request_view : Request → requests.Request
request_view (request.Execute state options) = requests.execute (reading_view state) (options_view options)
request_view (request.Implies antecedent consequent name) = requests.implies (reading_view antecedent) (reading_view consequent) (name_view name)
request_view (request.Simplify state name) = requests.simplify (reading_view state) (name_view name)
request_view (request.AddModule text name_as_id) = requests.add_module (string_bytes text) name_as_id

abbrev pub asked_view : Asked → requests.Asked
asked_view (asked.Request r) = requests.asks (request_view r)
asked_view (asked.Refused refusal) = requests.refused (refusal_view refusal)

abbrev pub call_view : Call → requests.Call
call_view c = record { id = option_map id_view c.id; asked = asked_view c.asked }

abbrev pub calls_view : List Call → List requests.Call
calls_view = map call_view

abbrev pub parsed_view : Parsed → requests.Frame
parsed_view (parsed.Single c) = requests.single (call_view c)
parsed_view (parsed.Batch cs) = requests.batch (calls_view cs.items)
parsed_view (parsed.Refused refusal) = requests.refused_whole (refusal_view refusal)
