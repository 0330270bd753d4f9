use Rattle.std.proofs.Common.{◌≡◌, drop}
use Rattle.kp_kore.specs.View.{sorts_view}
use Rattle.kp_json.specs.Written.{sort_trees}
use Rattle.kp_json.proofs.Writes.{sorts_written}
use Rattle.kp_json.proofs.written_sort.+sort.Given as goal

abbrev pub invariant-sort_values-loop-sort : goal.invariant-sort_values-loop-sort
invariant-sort_values-loop-sort l = sort_trees (sorts_view l.initial.sorts) ≡ sorts_written l.values.items (drop l.sort-index l.sorts)
