use Rattle.std.proofs.Common.{◌≡◌, subst, string_bytes, Option}
use Rattle.std.specs.Prelude.{codes}
use Rattle.std.specs.Option.{IfSome, IfNone}
use Rattle.std.proofs.lemmas.Result.{IfOk-weaker}
use Rattle.kp_replies.specs.Read.{execute, ServerReply}
use Rattle.kp_replies.specs.Replies.{IsReplyOf}
use Rattle.kp_replies.specs.View.{reply_view}
use Rattle.kp_replies.specs.declared.told.ServerReply.{ServerReply as RustReply}
use Rattle.kp_report.specs.Report.{IsReplyWhy}
use Rattle.kp_report.proofs.Lines.{why_by_nothing}
use Rattle.kp_report.proofs.report.line_why.Goals as goal

pub returns-in-Some : goal.returns-in-Some
returns-in-Some c = c.told_why.ensures c.args.line.now (subst (λ (o : Option RustReply). IfSome o (λ r. IsReplyOf execute c.args.line.now (reply_view r))) c.in-Some.is c.in_ok-reply.ensures.told)

pub returns-in-None : goal.returns-in-None
returns-in-None c =
    IfOk-weaker c.undecided.result (λ t. string_bytes t ≡ codes "undecided") (λ t. IsReplyWhy c.args.line.now (string_bytes t))
    (λ t is. why_by_nothing c.args.line.now (string_bytes t) (subst (λ (o : Option RustReply). IfNone o ((r : ServerReply) → ¬ IsReplyOf execute c.args.line.now r)) c.in-None.is c.in_ok-reply.ensures.none) is)
    c.undecided.ensures
