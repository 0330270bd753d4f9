use Rattle.std.proofs.Common.{ap}
use Rattle.kp_json.specs.Faults.{read, fault}
use Rattle.kp_json.specs.View.{fault_view}
use Rattle.kp_kore.specs.View.{view}
use Rattle.kp_requests.specs.View.{reading_view}
use Rattle.kp_rpc.specs.Reply.{no_pattern, error_reply}
use Rattle.kp_rpc.specs.View.{id_view, options_view}
use Rattle.kp_methods.proofs.SimplifiedLines.{right_line}
use Rattle.kp_methods.specs.Executed.{IsExecutedAs, unread}
use Rattle.kp_methods.proofs.ExecutedLines.{line_of_read}
use Rattle.kp_methods.proofs.execute.executed_line.Goals as goal

pub returns-in-Pattern : goal.returns-in-Pattern
returns-in-Pattern c = λ s runs over here.
    line_of_read c.pattern_line.result s (id_view c.args.id.now) (options_view c.args.options) (reading_view c.args.state) (read (view c.in-Pattern.pattern)) (ap reading_view c.in-Pattern.is) (c.pattern_line.ensures s runs over here)

pub returns-in-Fault : goal.returns-in-Fault
returns-in-Fault c = λ s runs over here.
    let id = id_view c.args.id.now in
    let options = options_view c.args.options in
    let f = fault_view c.in-Fault.fault in
    line_of_read c.fault_text.result s id options (reading_view c.args.state) (fault f) (ap reading_view c.in-Fault.is)
    (right_line c.fault_text.result (IsExecutedAs s id options (fault f)) (error_reply id (no_pattern f)) (unread f) c.fault_text.ensures.reply)
