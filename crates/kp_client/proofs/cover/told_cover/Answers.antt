use Rattle.std.proofs.Common.{sym, subst, rules}
use Rattle.std.proofs.lemmas.Int.{to_z-of_z}
use mir.Syntax.{w64}
use mir.Val.{SFits}
use Rattle.kp_replies.specs.Read.{implies, failed}
use Rattle.kp_replies.specs.View.{reply_view}
use Rattle.kp_replies.proofs.Methods.{line_of_method}
use Rattle.kp_client.specs.Rounds.{cover_question, Tells}
use Rattle.kp_client.proofs.cover.told_cover.Goals as goal

pub returns-in-Failed : goal.returns-in-Failed
returns-in-Failed c claim s e same h =
    let code = c.in-Failed.code in
    let fits : SFits w64 code = search rules in
    let told : Tells (cover_question claim s) implies e (failed code) = subst (λ r. Tells (cover_question claim s) implies e (reply_view r)) c.in-Failed.is h in
    c.failed_cover.ensures claim s e same (subst (λ z. Tells (cover_question claim s) implies e (failed z)) (sym (to_z-of_z w64 code fits)) told)

pub returns-in-Executed : goal.returns-in-Executed
returns-in-Executed c claim s e same h = let told = subst (λ r. Tells (cover_question claim s) implies e (reply_view r)) c.in-Executed.is h in absurd (line_of_method implies e.reply _ told.told)

pub returns-in-Unfinished : goal.returns-in-Unfinished
returns-in-Unfinished c claim s e same h = let told = subst (λ r. Tells (cover_question claim s) implies e (reply_view r)) c.in-Unfinished.is h in absurd (line_of_method implies e.reply _ told.told)

pub returns-in-Simplified : goal.returns-in-Simplified
returns-in-Simplified c claim s e same h = let told = subst (λ r. Tells (cover_question claim s) implies e (reply_view r)) c.in-Simplified.is h in absurd (line_of_method implies e.reply _ told.told)

pub returns : goal.returns
returns c claim s e same h = let told = subst (λ r. Tells (cover_question claim s) implies e (reply_view r)) c.in-Added.is h in absurd (line_of_method implies e.reply _ told.told)
