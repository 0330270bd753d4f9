use Rattle.kp_replies.specs.View.{method_view}
use Rattle.kp_replies.proofs.Lines.{line_none}
use Rattle.kp_replies.proofs.told.reply_of.Goals as goal

pub returns-in-Some-clause-none : goal.returns-in-Some-clause-none
returns-in-Some-clause-none c = line_none (method_view c.args.method) c.args.line.now c.in-Some.text.now c.frame_reply.result c.in-Some.ensures.some c.frame_reply.ensures.none
