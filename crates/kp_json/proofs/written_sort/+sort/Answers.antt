use Rattle.std.proofs.Common.{◌+◌, drop, sym, ap, ◌∙◌, arith}
use Rattle.serde_json.proofs.Views.{view-Object}
use Rattle.serde_json.specs.declared.value.Value.{Object}
use Rattle.kp_json.proofs.Writes.{sorts_written, sorts_first, sorts_next, sorts_done}
use Rattle.kp_json.proofs.written_sort.+sort.Goals as goal

pub sort_values-loop-sort-init : goal.sort_values-loop-sort-init
sort_values-loop-sort-init t c = sorts_first c.args.sorts.now c.new-values.result.items c.new-values.ensures.items

pub sort_values-loop-sort-preserved : goal.sort_values-loop-sort-preserved
sort_values-loop-sort-preserved t c =
    c.loop-sort.invariant ∙ sorts_next c.loop-sort.values.items c.args.sorts.now c.loop-sort.sort-index c.sort-item.result (Object c.in_ok-tree.tree) c.loop-sort-test.true c.sort-item.is (view-Object c.in_ok-tree.tree ∙ c.in_ok-tree.ensures)
    ∙ ap (λ l. sorts_written l (drop (c.loop-sort.sort-index + 1) c.args.sorts.now)) (sym c.in_ok-push.ensures.ok)

pub sort_values-returns : goal.sort_values-returns
sort_values-returns t c = sym (c.loop-sort.invariant ∙ sorts_done c.loop-sort.values.items c.args.sorts.now c.loop-sort.sort-index (omega (arith, c.loop-sort-test.false)))
