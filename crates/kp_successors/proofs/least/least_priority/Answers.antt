use Rattle.std.proofs.Common.{◌≡◌, ◌∷◌, [], subst, MatchOption, None, slice_get}
use Rattle.std.specs.List.{AllByRecursion}
use Rattle.std.proofs.lemmas.Result.{err_from_is_err_and}
use Rattle.kp_rules.specs.declared.rule.Rule.{Rule}
use Rattle.kp_signature.specs.View.{signature_view}
use Rattle.kp_ground.specs.View.{value_view}
use Rattle.kp_rule_sets.specs.Merged.{left_of}
use Rattle.kp_rule_sets.specs.Tops.{Top, may_have, top_of}
use Rattle.kp_rule_sets.specs.Turns.{AreInTurn, rules_among}
use Rattle.kp_run.specs.Turns.{BodyIsWide}
use Rattle.kp_run.proofs.Chosen.{narrow_back}
use Rattle.kp_run.proofs.Taking.{sets_out, goes_on, arrives, among_next, all_at_next}
use Rattle.kp_successors.specs.Turns.{IsLeast}
use Rattle.kp_successors.proofs.ByHead.{least_back}
use Rattle.kp_successors.proofs.least.least_priority.Goals as goal

pub loop-place-init : goal.loop-place-init
loop-place-init c =
    let g = signature_view c.args.rules.now.signature.value in
    let u = value_view c.args.value.now in
    let rules = c.args.rules.now.rules.items in
    sets_out rules (may_have (top_of u)) (λ before. IsLeast g u (rules_among rules before) None × AllByRecursion (λ r. ¬ BodyIsWide g u r.body.value) (rules_among rules before)) (left_of c.rules_at-places.result)
    (subst (λ (h : Top). AreInTurn rules (may_have h) (left_of c.rules_at-places.result)) c.head_of.ensures c.rules_at-places.ensures) (tt, tt)

pub loop-place-preserved : goal.loop-place-preserved
loop-place-preserved c =
    let g = signature_view c.args.rules.now.signature.value in
    let u = value_view c.args.value.now in
    let rules = c.args.rules.now.rules.items in
    let place = c.in-Some.place in
    let narrow : Rule → Type 0 = λ r. ¬ BodyIsWide g u r.body.value in
    let taken : left_of c.loop-place.places ≡ place ∷ left_of c.next.new.self = subst (λ o. MatchOption o (left_of c.loop-place.places ≡ []) (λ p. left_of c.loop-place.places ≡ p ∷ left_of c.next.new.self)) c.in-Some.is c.next.ensures in
    goes_on rules (may_have (top_of u)) (λ before. IsLeast g u (rules_among rules before) c.loop-place.least × AllByRecursion narrow (rules_among rules before)) (λ before. IsLeast g u (rules_among rules before) c.in_ok-least.least × AllByRecursion narrow (rules_among rules before)) place (left_of c.loop-place.places) (left_of c.next.new.self) taken
    (λ before held. (
      among_next (λ rs. IsLeast g u rs c.in_ok-least.least) rules before place (c.in_ok-least.ensures.least (rules_among rules before) held.0),
      among_next (AllByRecursion narrow) rules before place (all_at_next narrow (rules_among rules before) (slice_get rules place) held.1 c.in_ok-least.ensures.narrow),
    ))
    c.loop-place.invariant

pub returns-clause-least : goal.returns-clause-least
returns-clause-least c =
    let g = signature_view c.args.rules.now.signature.value in
    let u = value_view c.args.value.now in
    let rules = c.args.rules.now.rules.items in
    let ended : left_of c.loop-place.places ≡ [] = subst (λ o. MatchOption o (left_of c.loop-place.places ≡ []) (λ p. left_of c.loop-place.places ≡ p ∷ left_of c.next.new.self)) c.in_default.is c.next.ensures in
    let there = arrives rules (may_have (top_of u)) (λ before. IsLeast g u (rules_among rules before) c.loop-place.least × AllByRecursion (λ r. ¬ BodyIsWide g u r.body.value) (rules_among rules before)) (left_of c.loop-place.places) ended c.loop-place.invariant in
    least_back g u rules there.all c.loop-place.least there.turn there.holds.0

pub returns-clause-narrow : goal.returns-clause-narrow
returns-clause-narrow c =
    let g = signature_view c.args.rules.now.signature.value in
    let u = value_view c.args.value.now in
    let rules = c.args.rules.now.rules.items in
    let ended : left_of c.loop-place.places ≡ [] = subst (λ o. MatchOption o (left_of c.loop-place.places ≡ []) (λ p. left_of c.loop-place.places ≡ p ∷ left_of c.next.new.self)) c.in_default.is c.next.ensures in
    let there = arrives rules (may_have (top_of u)) (λ before. IsLeast g u (rules_among rules before) c.loop-place.least × AllByRecursion (λ r. ¬ BodyIsWide g u r.body.value) (rules_among rules before)) (left_of c.loop-place.places) ended c.loop-place.invariant in
    narrow_back g u rules there.all there.turn there.holds.1

pub returns-in_err-least-clause-refused : goal.returns-in_err-least-clause-refused
returns-in_err-least-clause-refused c =
    let p = err_from_is_err_and c.from_residual.result c.from_residual.ensures.1 in
    rw (p.1, p.2) c.in_err-least.ensures.refused
