use Rattle.std.proofs.Common.{sym, ap, subst, map}
use Rattle.kp_symbolic.specs.View.{replaced_view}
use Rattle.kp_rules.specs.Skeletons.{skeleton_view}
use Rattle.kp_rules.specs.Sides.{AreSidesOf}
use Rattle.kp_rules.specs.VerifiedSides.{AreVerifiedSides}
use Rattle.kp_unify.specs.Views.{signature_of, numbered_view}
use Rattle.kp_step.specs.ReadyParts.{IsReadyPart}
use Rattle.kp_satisfiability.proofs.Answered.{if_ok}
use Rattle.kp_step.specs.Firings.{IsFired}
use Rattle.kp_step.proofs.TriedLemmas.{left_at, is_fired, unmet_no_turn}
use Rattle.kp_step.proofs.turns.try_sides.Goals as goal

pub returns-else-not-are_of_left : goal.returns-else-not-are_of_left
returns-else-not-are_of_left c t used s found k z all m read are verified =
    let g = signature_of c.args.setting in
    let e = k.steps.signature in
    let q = numbered_view c.args.whole.now in
    let sides = c.args.sides.now in
    let fired = c.in_ok-firing.ensures used m k.setting (subst (λ h. AreSidesOf h m sides) (sym e) are) (subst (λ h. AreVerifiedSides h m) (sym e) verified) (subst (λ h. IsReadyPart h used q) (sym e) k.whole.ready) in
    let fires = subst (IsFired g used m (skeleton_view sides.left) q.part) c.in-Some.is fired in
    let i = is_fired t used s c.args.place q m sides c.in-Some.firing g (map replaced_view c.deref.result.now) e k.whole read are verified fires (ap (map replaced_view) c.deref.ensures.value) (c.are_of_left.ensures c.if-not-are_of_left.false) in
    if_ok c.try_firing.result _ _ (λ x told. told.0) (c.try_firing.ensures t used s found k z all (left_at t c.args.place m sides read are) i)

pub returns-in-None : goal.returns-in-None
returns-in-None c t used s found k z all m read are verified =
    let g = signature_of c.args.setting in
    let e = k.steps.signature in
    let q = numbered_view c.args.whole.now in
    let sides = c.args.sides.now in
    let fired = c.in_ok-firing.ensures used m k.setting (subst (λ h. AreSidesOf h m sides) (sym e) are) (subst (λ h. AreVerifiedSides h m) (sym e) verified) (subst (λ h. IsReadyPart h used q) (sym e) k.whole.ready) in
    unmet_no_turn t used s c.args.place m g q.part e k.whole.is read (subst (IsFired g used m (skeleton_view sides.left) q.part) c.in-None.is fired)
