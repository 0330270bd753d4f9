use Rattle.std.proofs.Common.{◌≡◌, ◌∷◌, [], subst, MatchOption, None}
use Rattle.kp_signature.specs.View.{signature_view}
use Rattle.kp_ground.specs.View.{value_view}
use Rattle.kp_rule_sets.specs.Merged.{left_of}
use Rattle.kp_rule_sets.specs.Tops.{Top, may_have, top_of}
use Rattle.kp_rule_sets.specs.Turns.{AreInTurn, rules_among}
use Rattle.kp_run.specs.Turns.{TellsForeign}
use Rattle.kp_run.proofs.Chosen.{tells_back}
use Rattle.kp_run.proofs.Taking.{sets_out, goes_on, arrives, among_next}
use Rattle.kp_run.proofs.step.foreign_on.Goals as goal

pub loop-place-init : goal.loop-place-init
loop-place-init c = λ sorted.
    let g = signature_view c.args.rules.now.signature.value in
    let u = value_view c.args.value.now in
    let rules = c.args.rules.now.rules.items in
    sets_out rules (may_have (top_of u)) (λ before. TellsForeign g u (rules_among rules before) None) (left_of c.rules_at-places.result)
    (subst (λ (h : Top). AreInTurn rules (may_have h) (left_of c.rules_at-places.result)) c.head_of.ensures c.rules_at-places.ensures) tt

pub loop-place-preserved : goal.loop-place-preserved
loop-place-preserved c = λ sorted.
    let g = signature_view c.args.rules.now.signature.value in
    let u = value_view c.args.value.now in
    let rules = c.args.rules.now.rules.items in
    let place = c.in-Some.place in
    let taken : left_of c.loop-place.places ≡ place ∷ left_of c.next.new.self = subst (λ o. MatchOption o (left_of c.loop-place.places ≡ []) (λ p. left_of c.loop-place.places ≡ p ∷ left_of c.next.new.self)) c.in-Some.is c.next.ensures in
    goes_on rules (may_have (top_of u)) (λ before. TellsForeign g u (rules_among rules before) c.loop-place.first) (λ before. TellsForeign g u (rules_among rules before) c.in_ok-first.first) place (left_of c.loop-place.places) (left_of c.next.new.self) taken
    (λ before tells. among_next (λ rs. TellsForeign g u rs c.in_ok-first.first) rules before place (c.in_ok-first.ensures sorted (rules_among rules before) tells))
    (c.loop-place.invariant sorted)

pub returns : goal.returns
returns c = λ sorted.
    let g = signature_view c.args.rules.now.signature.value in
    let u = value_view c.args.value.now in
    let rules = c.args.rules.now.rules.items in
    let ended : left_of c.loop-place.places ≡ [] = subst (λ o. MatchOption o (left_of c.loop-place.places ≡ []) (λ p. left_of c.loop-place.places ≡ p ∷ left_of c.next.new.self)) c.in_default.is c.next.ensures in
    let there = arrives rules (may_have (top_of u)) (λ before. TellsForeign g u (rules_among rules before) c.loop-place.first) (left_of c.loop-place.places) ended (c.loop-place.invariant sorted) in
    tells_back g u rules there.all c.loop-place.first there.turn there.holds
