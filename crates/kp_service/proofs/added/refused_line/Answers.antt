use Rattle.kp_replies.specs.View.{failure_view}
use Rattle.kp_rpc.specs.View.{id_view}
use Rattle.kp_replies.specs.Failures.{failure_reply}
use Rattle.kp_service.proofs.Adding.{has_reply, reply_told}
use Rattle.kp_service.proofs.added.refused_line.Goals as goal

pub returns : goal.returns
returns c = reply_told c.in_ok-line.field-0 c.in-Some.line (failure_reply (id_view c.args.id.now) (failure_view c.args.failure.now)) c.in-Some.is c.in_ok-line.ensures

pub unreachable-requires : goal.unreachable-requires
unreachable-requires c = has_reply (id_view c.args.id.now) (failure_view c.args.failure.now) c.in_ok-line.field-0 c.requires.data c.in_ok-line.ensures c.in-None.is
