use Rattle.std.proofs.Common.{rules, ◌≡◌, ◌∙◌, ap, subst}
use Rattle.kp_symbolic.specs.View.{state_view}
use Rattle.kp_unify.specs.Views.{signature_of}
use Rattle.kp_step.specs.Views.{numbered_views}
use Rattle.kp_goals.specs.View.{consequent_view}
use Rattle.kp_implies.specs.Steps.{TellsParts}
use Rattle.kp_implies.proofs.ImplyingLemmas.{part_here, parts_told}
use Rattle.kp_implies.proofs.implying.by_meeting.Goals as goal

pub returns-in-Instance-clause-answered : goal.returns-in-Instance-clause-answered
returns-in-Instance-clause-answered c used a c' m question met others own =
    let g = signature_of c.args.setting.now in
    let s = state_view c.args.state.now in
    let k = consequent_view c.args.consequent.now in
    let qs = numbered_views c.deref.result.now in
    let same : numbered_views c.args.meeting.now.apart.items ≡ qs = search rules in
    let told = parts_told g used s k m qs c.in_ok-search_parts.field-0 (others ∙ same) c.in_ok-search_parts.ensures in
    part_here g used s k m (subst (TellsParts g m.apart) c.in-Instance.is told)

pub returns-in-Rest-clause-answered : goal.returns-in-Rest-clause-answered
returns-in-Rest-clause-answered c used a c' m question met others own =
    let g = signature_of c.args.setting.now in
    let s = state_view c.args.state.now in
    let k = consequent_view c.args.consequent.now in
    let qs = numbered_views c.deref.result.now in
    let same : numbered_views c.args.meeting.now.apart.items ≡ qs = search rules in
    let told = parts_told g used s k m qs c.in_ok-search_parts.field-0 (others ∙ same) c.in_ok-search_parts.ensures in
    c.by_goals.ensures.answered used a c' m question (ap (λ z. z.part.state) met) own (subst (TellsParts g m.apart) c.in-Rest.is told)
