use Rattle.std.proofs.Common.{◌≡◌, refl, sym, subst, pos, negsuc, ℕ, List, [], ◌∷◌}
use Rattle.std.proofs.lemmas.Result.{IfOk-weaker}
use Rattle.kp_kore.specs.Syntax.{KorePattern}
use Rattle.kp_rpc.specs.Request.{RequestId}
use Rattle.kp_replies.specs.Read.{execute}
use Rattle.kp_replies.specs.View.{reply_view}
use Rattle.kp_client.specs.Answers.{IsHeard, IsStepAnswer}
use Rattle.kp_client.specs.Links.{Exchange}
use Rattle.kp_client.specs.Rounds.{IsGivenId, step_question, Tells, Refuses, by_no_reply, by_no_text}
use Rattle.kp_client.specs.declared.hear.Heard.TheVariants as heard
use Rattle.kp_client.proofs.steps.step_answer_of.Goals as goal

pub returns-in-Told : goal.returns-in-Told
returns-in-Told c =
    IfOk-weaker c.told_steps.result
    (λ a. (depth : ℕ) (s : KorePattern) (e : Exchange) → e.reply ≡ c.in-Told.line.items → Tells (step_question depth s) execute e (reply_view c.in-Told.reply) → IsStepAnswer depth s (e ∷ []) a)
    (λ a. (depth : ℕ) (s : KorePattern) (i : RequestId) (es : List Exchange) → IsGivenId i → IsHeard execute (step_question depth s i) es c.args.heard → IsStepAnswer depth s es a)
    (λ a says depth s i es lawful h.
    let t : IsHeard execute (step_question depth s i) es (heard.Told c.in-Told.reply c.in-Told.line) = subst (IsHeard execute (step_question depth s i) es) c.in-Told.is h in
    let e : Exchange = record { frame = t.0; reply = c.in-Told.line.items } in
    subst (λ fs. IsStepAnswer depth s fs a) (sym t.3) (says depth s e refl (record { number = i; lawful = lawful; asked = t.1; told = t.2 })))
    c.told_steps.ensures

pub returns-in-Nothing : goal.returns-in-Nothing
returns-in-Nothing c depth s i es lawful h =
    let t : IsHeard execute (step_question depth s i) es heard.Nothing = subst (IsHeard execute (step_question depth s i) es) c.in-Nothing.is h in
    subst (λ fs. Refuses (step_question depth s) execute fs (negsuc 32699)) (sym t.3) (by_no_reply t.0 (record { number = i; lawful = lawful; asked = t.1; none = t.2 }))

pub returns-in-Unasked : goal.returns-in-Unasked
returns-in-Unasked c depth s i es lawful h =
    let t : IsHeard execute (step_question depth s i) es heard.Unasked = subst (IsHeard execute (step_question depth s i) es) c.in-Unasked.is h in
    subst (λ fs. Refuses (step_question depth s) execute fs (pos 1)) (sym t.1) (by_no_text i t.0)
