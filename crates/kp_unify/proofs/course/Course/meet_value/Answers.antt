use Rattle.std.proofs.Common.{◌≡◌, sym, ◌∙◌, ap, subst, map, length}
use Rattle.std.specs.Prelude.{MatchOption}
use Rattle.kp_kore.specs.Signature.{constructor_of}
use Rattle.kp_kore.specs.Value.{constructed, head_of}
use Rattle.kp_ground.specs.View.{value_view, values_of}
use Rattle.kp_symbolic.specs.View.{term_view, terms_of}
use Rattle.kp_unify.specs.Forms.{members_view}
use Rattle.kp_unify.specs.Views.{stage_view}
use Rattle.kp_unify.specs.Way.{GoesOnIf}
use Rattle.kp_unify.proofs.PairSteps.{AreMet, met_as, known_terms, value_met, value_never, if_met}
use Rattle.kp_unify.proofs.NarrowedLemmas.{map_length}
use Rattle.kp_unify.proofs.course.Course.meet_value.Goals as goal

pub returns-in_ok-terms-in-Some : goal.returns-in_ok-terms-in-Some
returns-in_ok-terms-in-Some c g used left p form members next =
    let f = c.args.symbol.now in
    let u = value_view c.args.value.now in
    let us = c.in-Some.arguments.now in
    let fs = members_view c.args.members in
    let ts = map term_view c.in_ok-terms-in-Some.terms.items in
    let old = stage_view c.args.self.now in
    let new = stage_view c.meet_members.new.self in
    let is : u ≡ constructed f (values_of (map value_view us)) = subst (λ o. MatchOption o (¬ (head_of u ≡ constructor_of f)) (λ vs. u ≡ constructed f (values_of (map value_view vs.now)))) c.in-Some.is c.arguments_if.ensures in
    if_met c.meet_members.result (AreMet fs (length c.deref.result.now) (map term_view c.deref.result.now) old new) (λ b. GoesOnIf b g used left p new)
    (λ b m. value_met g used left p old new form u f fs (values_of (map value_view us)) ts b next members is (ap terms_of c.in_ok-terms-in-Some.ensures ∙ known_terms us)
    (met_as fs (length c.deref.result.now) (length ts) (map term_view c.deref.result.now) ts old new b (ap length c.deref.ensures.value ∙ sym (map_length term_view c.in_ok-terms-in-Some.terms.items)) (ap (map term_view) c.deref.ensures.value) m))
    c.meet_members.ensures

pub returns-in-None : goal.returns-in-None
returns-in-None c g used left p form members next =
    let f = c.args.symbol.now in
    let u = value_view c.args.value.now in
    value_never g used left p (stage_view c.args.self.now) form u f (members_view c.args.members) next members
    (subst (λ o. MatchOption o (¬ (head_of u ≡ constructor_of f)) (λ vs. u ≡ constructed f (values_of (map value_view vs.now)))) c.in-None.is c.arguments_if.ensures)
