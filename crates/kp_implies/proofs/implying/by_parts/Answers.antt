use Rattle.std.proofs.Common.{rules, ◌≡◌, refl, subst, map, true, false}
use Rattle.kp_rules.specs.Skeletons.{skeleton_view}
use Rattle.kp_symbolic.specs.View.{state_view}
use Rattle.kp_case_laws.specs.Parts.{whole}
use Rattle.kp_unify.specs.Promises.{TellsMeeting}
use Rattle.kp_unify.specs.Views.{signature_of, part_view, numbered_view, met_view}
use Rattle.kp_goals.specs.Consequents.{left_of}
use Rattle.kp_goals.specs.View.{consequent_view}
use Rattle.kp_implies.specs.Steps.{IsMet, MeetsIf}
use Rattle.kp_implies.proofs.ImplyingLemmas.{apart_here, meeting_told}
use Rattle.kp_implies.proofs.implying.by_parts.Goals as goal

pub returns-then-not-branch-clause-answered : goal.returns-then-not-branch-clause-answered
returns-then-not-branch-clause-answered c used a c' setting question own =
    let g = signature_of c.args.setting.now in
    let s = state_view c.args.state.now in
    let k = consequent_view c.args.consequent.now in
    let no : c.in_ok-terms_meet.field-0 ≡ false = search rules in
    c.apart.ensures.answered used k own (subst (MeetsIf g s k) no c.in_ok-terms_meet.ensures)

pub returns-in-Some-clause-answered : goal.returns-in-Some-clause-answered
returns-in-Some-clause-answered c used a c' setting question own =
    let g = signature_of c.args.setting.now in
    let s = state_view c.args.state.now in
    let k = consequent_view c.args.consequent.now in
    let yes : c.in_ok-terms_meet.field-0 ≡ true = search rules in
    let both = subst (MeetsIf g s k) yes c.in_ok-terms_meet.ensures in
    let p = c.in_ok-part.part in
    let told = meeting_told g used a c' s k (part_view p) p.next (skeleton_view c.in_ok-left.left) c.in_ok-meeting.field-0 question c.in_ok-part.ensures.view c.in_ok-part.ensures.next c.in_ok-left.ensures (c.in_ok-meeting.ensures used setting) in
    let x = c.in-Some.meeting in
    let m : IsMet g used s k = record { met = met_view x.met; next = x.met.part.next; apart = map numbered_view x.apart.items; values = both.0; meets = both.1; meeting = subst (TellsMeeting g used (left_of g k) (whole s)) c.in-Some.is told } in
    c.by_meeting.ensures.answered used a c' m question refl refl own

pub returns-clause-answered : goal.returns-clause-answered
returns-clause-answered c used a c' setting question own =
    let g = signature_of c.args.setting.now in
    let s = state_view c.args.state.now in
    let k = consequent_view c.args.consequent.now in
    let p = c.in_ok-part.part in
    let told = meeting_told g used a c' s k (part_view p) p.next (skeleton_view c.in_ok-left.left) c.in_ok-meeting.field-0 question c.in_ok-part.ensures.view c.in_ok-part.ensures.next c.in_ok-left.ensures (c.in_ok-meeting.ensures used setting) in
    c.apart-in-None.ensures.answered used k own (apart_here g s k (subst (TellsMeeting g used (left_of g k) (whole s)) c.in-None.is told))
