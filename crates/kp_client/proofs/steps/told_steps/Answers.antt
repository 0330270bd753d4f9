use Rattle.std.proofs.Common.{sym, subst, [], ◌∷◌, rules}
use Rattle.std.proofs.lemmas.Int.{to_z-of_z}
use mir.Syntax.{w64}
use mir.Val.{SFits}
use Rattle.kp_replies.specs.Read.{execute, failed}
use Rattle.kp_replies.specs.View.{reply_view}
use Rattle.kp_replies.proofs.Methods.{line_of_method}
use Rattle.kp_client.specs.Rounds.{step_question, Tells, Refuses, by_error, by_unfinished}
use Rattle.kp_client.proofs.steps.told_steps.Goals as goal

pub returns-in-Failed : goal.returns-in-Failed
returns-in-Failed c depth s e same h =
    let code = c.in-Failed.code in
    let fits : SFits w64 code = search rules in
    let told : Tells (step_question depth s) execute e (failed code) = subst (λ r. Tells (step_question depth s) execute e (reply_view r)) c.in-Failed.is h in
    subst (Refuses (step_question depth s) execute (e ∷ [])) (sym (to_z-of_z w64 code fits)) (by_error e code told)

pub returns-in-Unfinished : goal.returns-in-Unfinished
returns-in-Unfinished c depth s e same h = by_unfinished e _ (subst (λ r. Tells (step_question depth s) execute e (reply_view r)) c.in-Unfinished.is h)

pub returns-in-Implied : goal.returns-in-Implied
returns-in-Implied c depth s e same h = let told = subst (λ r. Tells (step_question depth s) execute e (reply_view r)) c.in-Implied.is h in absurd (line_of_method execute e.reply _ told.told)

pub returns-in-Simplified : goal.returns-in-Simplified
returns-in-Simplified c depth s e same h = let told = subst (λ r. Tells (step_question depth s) execute e (reply_view r)) c.in-Simplified.is h in absurd (line_of_method execute e.reply _ told.told)

pub returns : goal.returns
returns c depth s e same h = let told = subst (λ r. Tells (step_question depth s) execute e (reply_view r)) c.in-Added.is h in absurd (line_of_method execute e.reply _ told.told)
