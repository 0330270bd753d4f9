use Rattle.std.proofs.Common.{rules, ◌≡◌, sym, subst, map}
use Rattle.std.specs.Prelude.{MatchOption}
use Rattle.std.specs.List.{AllByRecursion}
use Rattle.kp_kore.specs.View.{view}
use Rattle.kp_rules.specs.Skeletons.{skeleton_view}
use Rattle.kp_symbolic.specs.WellFormed.{AreWellPlaced}
use Rattle.kp_symbolic.specs.View.{clauses_view, replaced_view}
use Rattle.kp_case_laws.specs.Courses.{IsBoundTo, form_variables}
use Rattle.kp_unify.specs.Views.{signature_of, part_view, met_view, numbered_view}
use Rattle.kp_unify.specs.Way.{IsAllApart, IsMeeting}
use Rattle.kp_step.specs.Conditions.{condition_clauses}
use Rattle.kp_step.specs.Firings.{numbered}
use Rattle.kp_step.proofs.FiringViews.{made_fires, apart_fires, meetable}
use Rattle.kp_step.proofs.FiredRules.{ready_rule}
use Rattle.kp_step.proofs.firing.fire.Goals as goal

pub returns-in_ok-condition-in-Some : goal.returns-in_ok-condition-in-Some
returns-in_ok-condition-in-Some c used m setting sides verified ready =
    let g = signature_of c.args.setting.now in
    let form = skeleton_view c.args.sides.now.left in
    let p = part_view c.args.part.now in
    let rule = ready_rule g m form sides.form verified in
    let all = c.in_ok-meeting.ensures used setting (meetable g used m form (numbered_view c.args.part.now) rule ready) in
    let met = subst (λ o. MatchOption o (IsAllApart g form p) (λ x. IsMeeting g used form p (met_view x.met) x.met.part.next (numbered x.apart.items))) c.in-Some.is all in
    let x = c.in-Some.meeting in
    let f = c.make_firing.result in
    let given = subst (λ bs. AllByRecursion (IsBoundTo g (part_view x.met.part) (map replaced_view bs)) (form_variables form)) (sym c.deref.ensures.value) met.bound in
    let bound = subst (λ bs. AreWellPlaced g (map replaced_view bs) (form_variables form)) c.deref.ensures.value (c.are_placed.ensures (part_view x.met.part) (search rules) given) in
    let condition : clauses_view f.condition.items ≡ condition_clauses g (met_view x.met).bindings (map view c.args.sides.now.condition.items) = search rules in
    made_fires g used m c.args.sides.now p x f (record { met = met; bound = bound }) sides rule condition c.make_firing.ensures.part c.make_firing.ensures.equations c.make_firing.ensures.bindings c.make_firing.ensures.apart

pub returns-in-None : goal.returns-in-None
returns-in-None c used m setting sides verified ready =
    let g = signature_of c.args.setting.now in
    let form = skeleton_view c.args.sides.now.left in
    let p = part_view c.args.part.now in
    let all = c.in_ok-meeting.ensures used setting (meetable g used m form (numbered_view c.args.part.now) (ready_rule g m form sides.form verified) ready) in
    apart_fires g m form p (subst (λ o. MatchOption o (IsAllApart g form p) (λ x. IsMeeting g used form p (met_view x.met) x.met.part.next (numbered x.apart.items))) c.in-None.is all) sides.left
