use Rattle.std.proofs.Common.{refl, sym, subst, pos, negsuc, ◌≢◌}
use Rattle.kp_replies.specs.Read.{implies}
use Rattle.kp_client.specs.Answers.{IsHeard, IsCoverAnswer}
use Rattle.kp_client.specs.Links.{Exchange}
use Rattle.kp_client.specs.Rounds.{cover_question, undecided_code, Refuses, by_no_reply, by_no_text}
use Rattle.kp_client.specs.declared.hear.Heard.TheVariants as heard
use Rattle.kp_client.proofs.Hearing.{vain_is_no_five, unread_is_no_five}
use Rattle.kp_client.proofs.cover.cover_answer_of.Goals as goal

pub returns-in-Told : goal.returns-in-Told
returns-in-Told c claim s i es lawful h =
    let t : IsHeard implies (cover_question claim s i) es (heard.Told c.in-Told.reply c.in-Told.line) = subst (IsHeard implies (cover_question claim s i) es) c.in-Told.is h in
    let e : Exchange = record { frame = t.0; reply = c.in-Told.line.items } in
    subst (λ fs. IsCoverAnswer claim s fs c.told_cover.result) (sym t.3) (c.told_cover.ensures claim s e refl (record { number = i; lawful = lawful; asked = t.1; told = t.2 }))

pub returns-in-Nothing : goal.returns-in-Nothing
returns-in-Nothing c claim s i es lawful h =
    let t : IsHeard implies (cover_question claim s i) es heard.Nothing = subst (IsHeard implies (cover_question claim s i) es) c.in-Nothing.is h in
    subst (λ fs. Refuses (cover_question claim s) implies fs (negsuc 32699) × (negsuc 32699 ≢ undecided_code)) (sym t.3) (by_no_reply t.0 (record { number = i; lawful = lawful; asked = t.1; none = t.2 }), unread_is_no_five)

pub returns-in-Unasked : goal.returns-in-Unasked
returns-in-Unasked c claim s i es lawful h =
    let t : IsHeard implies (cover_question claim s i) es heard.Unasked = subst (IsHeard implies (cover_question claim s i) es) c.in-Unasked.is h in
    subst (λ fs. Refuses (cover_question claim s) implies fs (pos 1) × (pos 1 ≢ undecided_code)) (sym t.1) (by_no_text i t.0, vain_is_no_five)
