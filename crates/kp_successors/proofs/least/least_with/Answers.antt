use Rattle.std.proofs.Common.{◌≡◌, ◌↔◌, refl, subst, option_map, Some, None, slice_get, IsTrue}
use Rattle.std.proofs.lemmas.Result.{err_from_is_err_and}
use Rattle.kp_signature.specs.View.{signature_view}
use Rattle.kp_ground.specs.View.{value_view}
use Rattle.kp_run.specs.Turns.{BodyFires, BodyIsWide}
use Rattle.kp_run.proofs.Taking.{one_at_next, none_at_next, all_of_one, all_of_none, some_at}
use Rattle.kp_successors.specs.Errors.{IsCausedBy}
use Rattle.kp_successors.specs.Turns.{IsLeast}
use Rattle.kp_successors.proofs.Refused.{caused_by}
use Rattle.kp_successors.proofs.least.least_with.Goals as goal

pub returns-in_ok-fires-in-Some-clause-least : goal.returns-in_ok-fires-in-Some-clause-least
returns-in_ok-fires-in-Some-clause-least c = λ before least.
    let g = signature_view c.args.rules.now.signature.value in
    let u = value_view c.args.value.now in
    let rules = c.args.rules.now.rules.items in
    let found : Some c.in-Some.rule.now ≡ slice_get rules c.args.place = subst (λ o. option_map (λ r. r.now) o ≡ slice_get rules c.args.place) c.in-Some.is c.rule_at.ensures in
    let r = c.in-Some.rule.now in
    one_at_next (λ rs. IsLeast g u rs c.least_after.result) before (slice_get rules c.args.place) r found
    (c.least_after.ensures g u before r least refl (subst (λ s. IsTrue c.in_ok-fires-in-Some.fires ↔ BodyFires (signature_view s) u r.body.value) c.deref.ensures c.in_ok-fires-in-Some.ensures.fires))

pub returns-in_ok-fires-in-Some-clause-narrow : goal.returns-in_ok-fires-in-Some-clause-narrow
returns-in_ok-fires-in-Some-clause-narrow c =
    let g = signature_view c.args.rules.now.signature.value in
    let u = value_view c.args.value.now in
    let rules = c.args.rules.now.rules.items in
    let found : Some c.in-Some.rule.now ≡ slice_get rules c.args.place = subst (λ o. option_map (λ r. r.now) o ≡ slice_get rules c.args.place) c.in-Some.is c.rule_at.ensures in
    all_of_one (λ r. ¬ BodyIsWide g u r.body.value) (slice_get rules c.args.place) c.in-Some.rule.now found (subst (λ s. ¬ BodyIsWide (signature_view s) u c.in-Some.rule.now.body.value) c.deref.ensures c.in_ok-fires-in-Some.ensures.narrow)

pub returns-in_err-fires-in-Some-clause-refused : goal.returns-in_err-fires-in-Some-clause-refused
returns-in_err-fires-in-Some-clause-refused c =
    let g = signature_view c.args.rules.now.signature.value in
    let u = value_view c.args.value.now in
    let rules = c.args.rules.now.rules.items in
    let found : Some c.in-Some.rule.now ≡ slice_get rules c.args.place = subst (λ o. option_map (λ r. r.now) o ≡ slice_get rules c.args.place) c.in-Some.is c.rule_at.ensures in
    let r = c.in-Some.rule.now in
    let p = err_from_is_err_and c.from_residual.result c.from_residual.ensures.1 in
    rw (p.1, p.2) (caused_by g (BodyIsWide g u r.body.value) _ c.in_err-fires-in-Some.field-0.0 (λ w. some_at (λ q. BodyIsWide g u q.body.value) rules c.args.place r found w)
    (subst (λ s. IsCausedBy (signature_view s) (BodyIsWide (signature_view s) u r.body.value) c.in_err-fires-in-Some.field-0.0) c.deref.ensures c.in_err-fires-in-Some.ensures.refused))

pub returns-in-None-clause-least : goal.returns-in-None-clause-least
returns-in-None-clause-least c = λ before least.
    let g = signature_view c.args.rules.now.signature.value in
    let u = value_view c.args.value.now in
    let rules = c.args.rules.now.rules.items in
    let none : None ≡ slice_get rules c.args.place = subst (λ o. option_map (λ r. r.now) o ≡ slice_get rules c.args.place) c.in-None.is c.rule_at.ensures in
    none_at_next (λ rs. IsLeast g u rs c.args.least) before (slice_get rules c.args.place) none least

pub returns-in-None-clause-narrow : goal.returns-in-None-clause-narrow
returns-in-None-clause-narrow c =
    let g = signature_view c.args.rules.now.signature.value in
    let u = value_view c.args.value.now in
    let rules = c.args.rules.now.rules.items in
    let none : None ≡ slice_get rules c.args.place = subst (λ o. option_map (λ r. r.now) o ≡ slice_get rules c.args.place) c.in-None.is c.rule_at.ensures in
    all_of_none (λ r. ¬ BodyIsWide g u r.body.value) (slice_get rules c.args.place) none
