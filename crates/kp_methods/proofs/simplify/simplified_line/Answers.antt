use Rattle.std.proofs.Common.{ap}
use Rattle.kp_json.specs.Faults.{read, fault}
use Rattle.kp_json.specs.View.{fault_view}
use Rattle.kp_kore.specs.View.{view}
use Rattle.kp_requests.specs.View.{reading_view}
use Rattle.kp_rpc.specs.Reply.{no_pattern, error_reply}
use Rattle.kp_rpc.specs.View.{id_view}
use Rattle.kp_methods.specs.Simplified.{IsSimplifiedAs, unread}
use Rattle.kp_methods.specs.Prepared.{signature_in}
use Rattle.kp_methods.proofs.SimplifiedLines.{line_of_read, right_line}
use Rattle.kp_methods.proofs.simplify.simplified_line.Goals as goal

pub returns-in-Pattern : goal.returns-in-Pattern
returns-in-Pattern c = line_of_read c.pattern_line.result (signature_in c.args.prepared.now) (id_view c.args.id.now) (reading_view c.args.state) (read (view c.in-Pattern.pattern)) (ap reading_view c.in-Pattern.is) c.pattern_line.ensures

pub returns-in-Fault : goal.returns-in-Fault
returns-in-Fault c =
    let g = signature_in c.args.prepared.now in
    let id = id_view c.args.id.now in
    let f = fault_view c.in-Fault.fault in
    line_of_read c.fault_text.result g id (reading_view c.args.state) (fault f) (ap reading_view c.in-Fault.is)
    (right_line c.fault_text.result (IsSimplifiedAs g id (fault f)) (error_reply id (no_pattern f)) (unread f) c.fault_text.ensures.reply)
