use Rattle.std.proofs.Common.{◌≡◌, ◌∷◌, ◌++◌, [], refl, subst, sym, map, MatchOption, slice_get}
use Rattle.std.specs.List.{AllByRecursion}
use Rattle.std.proofs.lemmas.Result.{err_from_is_err_and}
use Rattle.kp_kore.specs.View.{view}
use Rattle.kp_rules.specs.declared.rule.Rule.{Rule}
use Rattle.kp_signature.specs.View.{signature_view}
use Rattle.kp_ground.specs.View.{value_view}
use Rattle.kp_rule_sets.specs.Merged.{left_of}
use Rattle.kp_rule_sets.specs.Tops.{Top, may_have, top_of}
use Rattle.kp_rule_sets.specs.Turns.{AreInTurn, rules_among, with_first}
use Rattle.kp_run.proofs.Taking.{sets_out, goes_on, arrives, among_next, all_at_next}
use Rattle.kp_successors.specs.Turns.{AreNexts, IsWideAt}
use Rattle.kp_successors.proofs.ByHead.{nexts_back, right_back}
use Rattle.kp_successors.proofs.next.nexts_at.Goals as goal

pub loop-place-init : goal.loop-place-init
loop-place-init c =
    let g = signature_view c.args.rules.now.signature.value in
    let u = value_view c.args.value.now in
    let n = c.args.priority in
    let rules = c.args.rules.now.rules.items in
    sets_out rules (may_have (top_of u)) (λ before. AreNexts g u n (rules_among rules before) (map view c.new-found.result.items) × AllByRecursion (λ r. ¬ IsWideAt g u n r) (rules_among rules before)) (left_of c.rules_at-places.result)
    (subst (λ (h : Top). AreInTurn rules (may_have h) (left_of c.rules_at-places.result)) c.head_of.ensures c.rules_at-places.ensures) (subst (λ ps. map view ps ≡ []) (sym c.new-found.ensures.items) refl, tt)

pub loop-place-preserved : goal.loop-place-preserved
loop-place-preserved c =
    let g = signature_view c.args.rules.now.signature.value in
    let u = value_view c.args.value.now in
    let n = c.args.priority in
    let rules = c.args.rules.now.rules.items in
    let place = c.in-Some.place in
    let found = c.add_next.new.found.items in
    let narrow : Rule → Type 0 = λ r. ¬ IsWideAt g u n r in
    let taken : left_of c.loop-place.places ≡ place ∷ left_of c.next.new.self = subst (λ o. MatchOption o (left_of c.loop-place.places ≡ []) (λ p. left_of c.loop-place.places ≡ p ∷ left_of c.next.new.self)) c.in-Some.is c.next.ensures in
    goes_on rules (may_have (top_of u)) (λ before. AreNexts g u n (rules_among rules before) (map view c.loop-place.found.items) × AllByRecursion narrow (rules_among rules before)) (λ before. AreNexts g u n (rules_among rules before) (map view found) × AllByRecursion narrow (rules_among rules before)) place (left_of c.loop-place.places) (left_of c.next.new.self) taken
    (λ before held. (
      among_next (λ rs. AreNexts g u n rs (map view found)) rules before place (subst (λ ps. AreNexts g u n (rules_among rules before ++ with_first (slice_get rules place) []) ps) (sym c.in_ok-add_next.ensures) (c.in_ok-next.ensures.next (rules_among rules before) (map view c.loop-place.found.items) held.0)),
      among_next (AllByRecursion narrow) rules before place (all_at_next narrow (rules_among rules before) (slice_get rules place) held.1 c.in_ok-next.ensures.narrow),
    ))
    c.loop-place.invariant

pub returns-clause-nexts : goal.returns-clause-nexts
returns-clause-nexts c =
    let g = signature_view c.args.rules.now.signature.value in
    let u = value_view c.args.value.now in
    let n = c.args.priority in
    let rules = c.args.rules.now.rules.items in
    let narrow : Rule → Type 0 = λ r. ¬ IsWideAt g u n r in
    let ended : left_of c.loop-place.places ≡ [] = subst (λ o. MatchOption o (left_of c.loop-place.places ≡ []) (λ p. left_of c.loop-place.places ≡ p ∷ left_of c.next.new.self)) c.in_default.is c.next.ensures in
    let there = arrives rules (may_have (top_of u)) (λ before. AreNexts g u n (rules_among rules before) (map view c.loop-place.found.items) × AllByRecursion narrow (rules_among rules before)) (left_of c.loop-place.places) ended c.loop-place.invariant in
    nexts_back g u n rules there.all (map view c.loop-place.found.items) there.turn there.holds.0

pub returns-clause-narrow : goal.returns-clause-narrow
returns-clause-narrow c =
    let g = signature_view c.args.rules.now.signature.value in
    let u = value_view c.args.value.now in
    let n = c.args.priority in
    let rules = c.args.rules.now.rules.items in
    let narrow : Rule → Type 0 = λ r. ¬ IsWideAt g u n r in
    let ended : left_of c.loop-place.places ≡ [] = subst (λ o. MatchOption o (left_of c.loop-place.places ≡ []) (λ p. left_of c.loop-place.places ≡ p ∷ left_of c.next.new.self)) c.in_default.is c.next.ensures in
    let there = arrives rules (may_have (top_of u)) (λ before. AreNexts g u n (rules_among rules before) (map view c.loop-place.found.items) × AllByRecursion narrow (rules_among rules before)) (left_of c.loop-place.places) ended c.loop-place.invariant in
    right_back g u n rules there.all there.turn there.holds.1

pub returns-in_err-next-clause-refused : goal.returns-in_err-next-clause-refused
returns-in_err-next-clause-refused c =
    let p = err_from_is_err_and c.from_residual.result c.from_residual.ensures.1 in
    rw (p.1, p.2) c.in_err-next.ensures.refused
