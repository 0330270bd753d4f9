use Rattle.std.proofs.Common.{subst, map}
use Rattle.std.specs.Prelude.{MatchOption}
use Rattle.kp_rules.specs.Skeletons.{skeleton_view}
use Rattle.kp_unify.specs.Views.{signature_of, numbered_view, met_view}
use Rattle.kp_unify.specs.Way.{IsAllApart, IsMeeting}
use Rattle.kp_step.proofs.AskedLemmas.{meetable}
use Rattle.kp_step.proofs.HeardLemmas.{tells_answer, tells_all_apart}
use Rattle.kp_step.proofs.foreign.meets_at_one_sort.Goals as goal

pub returns-in-Some : goal.returns-in-Some
returns-in-Some c one t used s place e setting w f =
    let g = signature_of c.args.setting in
    let form = skeleton_view c.args.skeleton.now in
    let q = numbered_view c.args.whole.now in
    let all = c.in_ok-meeting.ensures used setting (meetable g used form q w.ready one) in
    let met = subst (λ o. MatchOption o (IsAllApart g form q.part) (λ x. IsMeeting g used form q.part (met_view x.met) x.met.part.next (map numbered_view x.apart.items))) c.in-Some.is all in
    let x = c.in-Some.meeting in
    let apart = map numbered_view x.apart.items in
    tells_answer t used s place c.args.skeleton.now q (met_view x.met) x.met.part.next apart g c.met_answer.result e w f met (c.met_answer.ensures used s apart w met)

pub returns-in-None : goal.returns-in-None
returns-in-None c one t used s place e setting w f =
    let g = signature_of c.args.setting in
    let form = skeleton_view c.args.skeleton.now in
    let q = numbered_view c.args.whole.now in
    let all = c.in_ok-meeting.ensures used setting (meetable g used form q w.ready one) in
    let apart = subst (λ o. MatchOption o (IsAllApart g form q.part) (λ x. IsMeeting g used form q.part (met_view x.met) x.met.part.next (map numbered_view x.apart.items))) c.in-None.is all in
    tells_all_apart t used s place c.args.skeleton.now q g e w f apart
