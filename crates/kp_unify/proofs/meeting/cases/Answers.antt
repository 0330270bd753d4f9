use Rattle.std.proofs.Common.{◌≡◌, sym, subst, map}
use Rattle.std.specs.Prelude.{IfOk, MatchOption}
use Rattle.kp_rules.specs.Skeletons.{skeleton_view}
use Rattle.kp_symbolic.specs.View.{state_view}
use Rattle.kp_case_laws.specs.Parts.{whole}
use Rattle.kp_unify.specs.Views.{signature_of, numbered_view, met_view}
use Rattle.kp_unify.specs.Way.{IsMeetable, IsAllApart, IsMeeting}
use Rattle.kp_unify.proofs.EndLemmas.{numbered_as}
use Rattle.kp_unify.proofs.meeting.cases.Goals as goal

pub returns : goal.returns
returns c used setting ready =
    let g = signature_of c.args.setting.now in
    let l = skeleton_view c.args.left.now in
    let p = whole (state_view c.args.state.now) in
    let q = numbered_view c.in_ok-part.part in
    let same : q ≡ record { part = p; next = c.args.next } = numbered_as q p c.args.next c.in_ok-part.ensures.view c.in_ok-part.ensures.next in
    subst (λ z. IfOk c.meet.result (λ o. MatchOption o (IsAllApart g l z.part) (λ m. IsMeeting g used l z.part (met_view m.met) m.met.part.next (map numbered_view m.apart.items)))) same
    (c.meet.ensures used setting (subst (IsMeetable g used l) (sym same) ready))
