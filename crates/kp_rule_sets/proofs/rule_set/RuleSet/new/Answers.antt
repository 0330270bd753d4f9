use Rattle.std.proofs.Common.{List, ℕ, subst, true}
use Rattle.indexmap.specs.IndexMap.{get_by_text}
use Rattle.kp_rules.specs.declared.rule.Rule.{Rule}
use Rattle.kp_rule_sets.specs.Rows.{FillsOf, numbered, rows_view}
use Rattle.kp_rule_sets.specs.Turns.{AreInTurn}
use Rattle.kp_rule_sets.proofs.Merging.{rows_in_turn}
use Rattle.kp_rule_sets.proofs.rule_set.RuleSet.new.Goals as goal

pub invariant_of-result-clause-in_turn : goal.invariant_of-result-clause-in_turn
invariant_of-result-clause-in_turn c = subst (λ (rs : List Rule). AreInTurn rs (λ _. true) c.in_ok-order.order.items) c.deref.ensures.value c.in_ok-order.ensures

pub invariant_of-result-clause-by_head : goal.invariant_of-result-clause-by_head
invariant_of-result-clause-by_head c = λ h.
    let index = c.in_ok-index.index in
    let order = c.in_ok-order.order.items in
    let fills : FillsOf c.args.rules.items (numbered 0 order) index =
    subst (λ (rs : List Rule). FillsOf rs (numbered 0 order) index) c.deref-2.ensures.value
    (subst (λ (l : List ℕ). FillsOf c.deref-2.result.now (numbered 0 l) index) c.deref-3.ensures.value c.in_ok-index.ensures) in
    rows_in_turn c.args.rules.items order (get_by_text index.names) (rows_view index.rows.items) index.any.items h (subst (λ (rs : List Rule). AreInTurn rs (λ _. true) order) c.deref.ensures.value c.in_ok-order.ensures) fills
