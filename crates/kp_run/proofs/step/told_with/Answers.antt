use Rattle.std.proofs.Common.{◌≡◌, subst, option_map, Some, None, slice_get}
use Rattle.kp_signature.specs.View.{signature_view}
use Rattle.kp_ground.specs.View.{value_view}
use Rattle.kp_run.specs.Turns.{TellsForeign}
use Rattle.kp_run.proofs.Taking.{one_at_next, none_at_next}
use Rattle.kp_run.proofs.step.told_with.Goals as goal

pub returns-in_ok-might-in-Some : goal.returns-in_ok-might-in-Some
returns-in_ok-might-in-Some c = λ sorted before tells.
    let g = signature_view c.args.rules.now.signature.value in
    let u = value_view c.args.value.now in
    let rules = c.args.rules.now.rules.items in
    let found : Some c.in-Some.rule.now ≡ slice_get rules c.args.place = subst (λ o. option_map (λ r. r.now) o ≡ slice_get rules c.args.place) c.in-Some.is c.rule_at.ensures in
    one_at_next (λ rs. TellsForeign g u rs c.told_after.result) before (slice_get rules c.args.place) c.in-Some.rule.now found
    (c.told_after.ensures g u before tells ((rw (c.deref.ensures, c.deref-in-Some.ensures) at c.in_ok-might-in-Some.ensures) sorted))

pub returns-in-None : goal.returns-in-None
returns-in-None c = λ sorted before tells.
    let g = signature_view c.args.rules.now.signature.value in
    let u = value_view c.args.value.now in
    let rules = c.args.rules.now.rules.items in
    let none : None ≡ slice_get rules c.args.place = subst (λ o. option_map (λ r. r.now) o ≡ slice_get rules c.args.place) c.in-None.is c.rule_at.ensures in
    none_at_next (λ rs. TellsForeign g u rs c.args.first) before (slice_get rules c.args.place) none tells
