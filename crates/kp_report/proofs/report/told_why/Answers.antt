use Rattle.std.proofs.Common.{◌≡◌, subst, string_bytes}
use Rattle.std.specs.Prelude.{codes}
use Rattle.std.proofs.lemmas.Result.{IfOk-weaker}
use Rattle.kp_results.specs.View.{executed_view, reason_view}
use Rattle.kp_replies.specs.Read.{execute}
use Rattle.kp_replies.specs.Replies.{IsReplyOf}
use Rattle.kp_replies.specs.View.{reply_view}
use Rattle.kp_replies.proofs.Methods.{line_of_method}
use Rattle.kp_report.specs.Report.{IsReplyWhy, run_why}
use Rattle.kp_report.proofs.Lines.{why_by_run, why_by_unfinished, why_by_error}
use Rattle.kp_report.proofs.report.told_why.Goals as goal

pub returns-in-Executed : goal.returns-in-Executed
returns-in-Executed c line told =
    IfOk-weaker c.run_why.result (λ t. string_bytes t ≡ run_why (reason_view c.in-Executed.run'.reason)) (λ t. IsReplyWhy line (string_bytes t))
    (λ t is. why_by_run line (string_bytes t) (executed_view c.in-Executed.run') (subst (λ r. IsReplyOf execute line (reply_view r)) c.in-Executed.is told) is)
    c.run_why.ensures

pub returns-in-Unfinished : goal.returns-in-Unfinished
returns-in-Unfinished c line told =
    IfOk-weaker c.undecided.result (λ t. string_bytes t ≡ codes "undecided") (λ t. IsReplyWhy line (string_bytes t))
    (λ t is. why_by_unfinished line (string_bytes t) _ (subst (λ r. IsReplyOf execute line (reply_view r)) c.in-Unfinished.is told) is)
    c.undecided.ensures

pub returns-in-Failed : goal.returns-in-Failed
returns-in-Failed c line told =
    IfOk-weaker c.undecided-in-Failed.result (λ t. string_bytes t ≡ codes "undecided") (λ t. IsReplyWhy line (string_bytes t))
    (λ t is. why_by_error line (string_bytes t) _ (subst (λ r. IsReplyOf execute line (reply_view r)) c.in-Failed.is told) is)
    c.undecided-in-Failed.ensures

pub returns-in-Implied : goal.returns-in-Implied
returns-in-Implied c line told = absurd (line_of_method execute line _ (subst (λ r. IsReplyOf execute line (reply_view r)) c.in-Implied.is told))

pub returns-in-Simplified : goal.returns-in-Simplified
returns-in-Simplified c line told = absurd (line_of_method execute line _ (subst (λ r. IsReplyOf execute line (reply_view r)) c.in-Simplified.is told))

pub returns : goal.returns
returns c line told = absurd (line_of_method execute line _ (subst (λ r. IsReplyOf execute line (reply_view r)) c.in-Added.is told))
