use Rattle.std.proofs.Common.{◌≡◌, sym, subst, true, option_map, Some, None, slice_get}
use Rattle.kp_ground.specs.View.{value_view}
use Rattle.kp_run.specs.Turns.{BodyFires, BodyIsWide}
use Rattle.kp_run.proofs.Taking.{all_of_one, all_of_none}
use Rattle.kp_run.proofs.step.is_to_match.Goals as goal

pub returns-in-Some-clause-rests : goal.returns-in-Some-clause-rests
returns-in-Some-clause-rests c = λ g isnt.
    let u = value_view c.args.value.now in
    let rules = c.args.rules.now.rules.items in
    let found : Some c.in-Some.rule.now ≡ slice_get rules c.args.place = subst (λ o. option_map (λ r. r.now) o ≡ slice_get rules c.args.place) c.in-Some.is c.rule_at.ensures in
    all_of_one (λ r. ¬ BodyFires g u r.body.value) (slice_get rules c.args.place) c.in-Some.rule.now found
    (λ fires. let may : c.may_fire.result ≡ true = c.may_fire.ensures.fires g (subst (BodyFires g u) (sym c.deref.ensures) fires) in absurd (cc (may, isnt)))

pub returns-in-Some-clause-narrow : goal.returns-in-Some-clause-narrow
returns-in-Some-clause-narrow c = λ g isnt.
    let u = value_view c.args.value.now in
    let rules = c.args.rules.now.rules.items in
    let found : Some c.in-Some.rule.now ≡ slice_get rules c.args.place = subst (λ o. option_map (λ r. r.now) o ≡ slice_get rules c.args.place) c.in-Some.is c.rule_at.ensures in
    all_of_one (λ r. ¬ BodyIsWide g u r.body.value) (slice_get rules c.args.place) c.in-Some.rule.now found
    (λ wide. let may : c.may_fire.result ≡ true = c.may_fire.ensures.wide g (subst (BodyIsWide g u) (sym c.deref.ensures) wide) in absurd (cc (may, isnt)))

pub returns-in-None-clause-rests : goal.returns-in-None-clause-rests
returns-in-None-clause-rests c = λ g isnt.
    let u = value_view c.args.value.now in
    let rules = c.args.rules.now.rules.items in
    let none : None ≡ slice_get rules c.args.place = subst (λ o. option_map (λ r. r.now) o ≡ slice_get rules c.args.place) c.in-None.is c.rule_at.ensures in
    all_of_none (λ r. ¬ BodyFires g u r.body.value) (slice_get rules c.args.place) none

pub returns-in-None-clause-narrow : goal.returns-in-None-clause-narrow
returns-in-None-clause-narrow c = λ g isnt.
    let u = value_view c.args.value.now in
    let rules = c.args.rules.now.rules.items in
    let none : None ≡ slice_get rules c.args.place = subst (λ o. option_map (λ r. r.now) o ≡ slice_get rules c.args.place) c.in-None.is c.rule_at.ensures in
    all_of_none (λ r. ¬ BodyIsWide g u r.body.value) (slice_get rules c.args.place) none
