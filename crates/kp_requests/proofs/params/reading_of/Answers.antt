use Rattle.std.proofs.Common.{sym, ap}
use Rattle.serde_json.specs.View.{view}
use Rattle.kp_kore.specs.View.{view as pattern_view}
use Rattle.kp_json.specs.View.{fault_view, fault_of}
use Rattle.kp_json.proofs.Complete.{wrapped_complete}
use Rattle.kp_requests.proofs.params.reading_of.Goals as goal

pub returns-in-Ok : goal.returns-in-Ok
returns-in-Ok c = sym (wrapped_complete (view c.args.tree.now) (pattern_view c.in-Ok.pattern) c.in-Ok.ensures.found)

pub returns-in-Err-Fault : goal.returns-in-Err-Fault
returns-in-Err-Fault c = sym (c.in-Err-Fault.ensures.fault (fault_view c.in-Err-Fault.fault) (ap fault_of c.in-Err-Fault.field-0-is))
