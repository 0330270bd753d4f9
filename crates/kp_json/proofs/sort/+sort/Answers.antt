use Rattle.std.proofs.Common.{◌+◌, drop, sym, ap, ◌∙◌, arith}
use Rattle.std.specs.Prelude.{codes}
use Rattle.serde_json.specs.Data.{items_depth}
use Rattle.serde_json.specs.View.{view, items_view, members_view}
use Rattle.kp_json.proofs.Sorts.{list_below, tree_below, sorts_after, sorts_step, sorts_all, sorts_whole}
use Rattle.kp_json.proofs.sort.+sort.Goals as goal

pub sort_application-sorts_of-requires : goal.sort_application-sorts_of-requires
sort_application-sorts_of-requires t c =
    let below = list_below (members_view c.args.object.now.entries) (codes "args") (view c.in_ok-list.list.now) (items_view c.in_ok-sorts.sorts.now.items) c.in_ok-list.ensures.found c.in_ok-sorts.ensures.found in
    (omega (arith, below, ap (λ l. items_depth (items_view l)) c.deref.ensures.value), tt)

pub sorts_of-sort_of-requires : goal.sorts_of-sort_of-requires
sorts_of-sort_of-requires t c =
    let below = tree_below c.args.values.now c.loop-value.value-index c.value-item.result c.args.key.now (members_view c.in_ok-object.object.now.entries) c.loop-value-test.true c.value-item.is c.in_ok-object.ensures.found in
    (omega (arith, below), tt)

pub sorts_of-loop-value-init : goal.sorts_of-loop-value-init
sorts_of-loop-value-init t c = sorts_whole c.args.key.now c.args.values.now c.new-sorts.result.items c.new-sorts.ensures.items

pub sorts_of-loop-value-preserved : goal.sorts_of-loop-value-preserved
sorts_of-loop-value-preserved t c =
    c.loop-value.invariant ∙ sorts_step c.loop-value.sorts.items c.args.key.now c.args.values.now c.loop-value.value-index c.value-item.result (members_view c.in_ok-object.object.now.entries) c.in_ok-sort_of.field-0 c.loop-value-test.true c.value-item.is c.in_ok-object.ensures.found c.in_ok-sort_of.ensures.found
    ∙ ap (λ l. sorts_after l c.args.key.now (drop (c.loop-value.value-index + 1) c.args.values.now)) (sym c.in_ok-push.ensures.items)

pub sorts_of-returns-clause-found : goal.sorts_of-returns-clause-found
sorts_of-returns-clause-found t c = c.loop-value.invariant ∙ sorts_all c.loop-value.sorts.items c.args.key.now c.args.values.now c.loop-value.value-index (omega (arith, c.loop-value-test.false))
