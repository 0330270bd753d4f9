use Rattle.std.proofs.Common.{◌≡◌, subst, option_map, Some, None, slice_get, MatchOption}
use Rattle.std.proofs.lemmas.Result.{err_from_is_err_and}
use Rattle.kp_signature.specs.View.{signature_view}
use Rattle.kp_ground.specs.View.{value_view}
use Rattle.kp_run.specs.Turns.{BodyFires, BodyIsWide, IsFiring, IsTurn}
use Rattle.kp_run.proofs.Taking.{one_at_next, none_at_next, all_of_one, all_of_none, some_at}
use Rattle.kp_run.proofs.step.turn_with.Goals as goal

pub returns-in_ok-firing-in-Some-clause-turn : goal.returns-in_ok-firing-in-Some-clause-turn
returns-in_ok-firing-in-Some-clause-turn c = λ before turn.
    let g = signature_view c.args.rules.now.signature.value in
    let u = value_view c.args.value.now in
    let rules = c.args.rules.now.rules.items in
    let found : Some c.in-Some.rule.now ≡ slice_get rules c.args.place = subst (λ o. option_map (λ r. r.now) o ≡ slice_get rules c.args.place) c.in-Some.is c.rule_at.ensures in
    let r = c.in-Some.rule.now in
    one_at_next (λ rs. IsTurn g u rs c.turn_after.result) before (slice_get rules c.args.place) r found
    (c.turn_after.ensures g u before r turn
    (subst (λ s. MatchOption c.in_ok-firing-in-Some.firing (¬ BodyFires (signature_view s) u r.body.value) (λ f. IsFiring (signature_view s) u f r)) c.deref.ensures c.in_ok-firing-in-Some.ensures.firing))

pub returns-in_ok-firing-in-Some-clause-narrow : goal.returns-in_ok-firing-in-Some-clause-narrow
returns-in_ok-firing-in-Some-clause-narrow c =
    let g = signature_view c.args.rules.now.signature.value in
    let u = value_view c.args.value.now in
    let rules = c.args.rules.now.rules.items in
    let found : Some c.in-Some.rule.now ≡ slice_get rules c.args.place = subst (λ o. option_map (λ r. r.now) o ≡ slice_get rules c.args.place) c.in-Some.is c.rule_at.ensures in
    all_of_one (λ r. ¬ BodyIsWide g u r.body.value) (slice_get rules c.args.place) c.in-Some.rule.now found (subst (λ s. ¬ BodyIsWide (signature_view s) u c.in-Some.rule.now.body.value) c.deref.ensures c.in_ok-firing-in-Some.ensures.narrow)

pub returns-in_err-firing-in-Some-clause-wide : goal.returns-in_err-firing-in-Some-clause-wide
returns-in_err-firing-in-Some-clause-wide c =
    let g = signature_view c.args.rules.now.signature.value in
    let u = value_view c.args.value.now in
    let rules = c.args.rules.now.rules.items in
    let found : Some c.in-Some.rule.now ≡ slice_get rules c.args.place = subst (λ o. option_map (λ r. r.now) o ≡ slice_get rules c.args.place) c.in-Some.is c.rule_at.ensures in
    let p = err_from_is_err_and c.from_residual.result c.from_residual.ensures.1 in
    rw (p.1, p.2) (λ is. some_at (λ r. BodyIsWide g u r.body.value) rules c.args.place c.in-Some.rule.now found (subst (λ s. BodyIsWide (signature_view s) u c.in-Some.rule.now.body.value) c.deref.ensures (c.in_err-firing-in-Some.ensures.wide is)))

pub returns-in-None-clause-turn : goal.returns-in-None-clause-turn
returns-in-None-clause-turn c = λ before turn.
    let g = signature_view c.args.rules.now.signature.value in
    let u = value_view c.args.value.now in
    let rules = c.args.rules.now.rules.items in
    let none : None ≡ slice_get rules c.args.place = subst (λ o. option_map (λ r. r.now) o ≡ slice_get rules c.args.place) c.in-None.is c.rule_at.ensures in
    none_at_next (λ rs. IsTurn g u rs c.args.turn) before (slice_get rules c.args.place) none turn

pub returns-in-None-clause-narrow : goal.returns-in-None-clause-narrow
returns-in-None-clause-narrow c =
    let g = signature_view c.args.rules.now.signature.value in
    let u = value_view c.args.value.now in
    let rules = c.args.rules.now.rules.items in
    let none : None ≡ slice_get rules c.args.place = subst (λ o. option_map (λ r. r.now) o ≡ slice_get rules c.args.place) c.in-None.is c.rule_at.ensures in
    all_of_none (λ r. ¬ BodyIsWide g u r.body.value) (slice_get rules c.args.place) none
