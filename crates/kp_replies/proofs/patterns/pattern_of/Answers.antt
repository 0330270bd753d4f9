use Rattle.std.proofs.Common.{sym}
use Rattle.serde_json.specs.View.{view}
use Rattle.kp_kore.specs.View.{view as pattern_view}
use Rattle.kp_replies.proofs.PatternsRead.{read_in, no_pattern}
use Rattle.kp_replies.proofs.patterns.pattern_of.Goals as goal

pub returns-in-Ok : goal.returns-in-Ok
returns-in-Ok c = sym (read_in (view c.args.tree.now) (pattern_view c.in-Ok.pattern) c.in-Ok.ensures.found)

pub returns-in-Err-Fault : goal.returns-in-Err-Fault
returns-in-Err-Fault c = no_pattern c.in-Err-Fault.field-0 c.in-Err-Fault.field-0-0 (view c.args.tree.now) c.in-Err-Fault.field-0-is c.in-Err-Fault.ensures.fault
