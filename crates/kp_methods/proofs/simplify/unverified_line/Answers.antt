use Rattle.std.proofs.Common.{subst}
use Rattle.kp_rpc.specs.View.{id_view}
use Rattle.kp_methods.specs.Ends.{IsWrongPattern}
use Rattle.kp_methods.specs.RightResults.{NoneLeftOut}
use Rattle.kp_methods.proofs.SimplifiedLines.{fault_line, unverified}
use Rattle.kp_methods.proofs.simplify.unverified_line.Goals as goal

pub returns-in-Fault : goal.returns-in-Fault
returns-in-Fault c = λ g p tells.
    fault_line c.fault_text.result g p (id_view c.args.id.now) c.in-Fault.fault (subst (IsWrongPattern g NoneLeftOut p) c.in-Fault.is (c.verify_failure.ensures.fault g p tells)) (unverified g p c.args.error tells (c.is_memory.ensures c.if-is_memory.false)) c.fault_text.ensures.reply
