use Rattle.std.proofs.Common.{◌≡◌, ◌+◌, ◌*◌, drop}
use Rattle.serde_json.specs.Data.{object, depth, items_depth}
use Rattle.serde_json.specs.View.{items_view, members_view}
use Rattle.kp_json.specs.Faults.{sort_items, sort_reading}
use Rattle.kp_json.proofs.Sorts.{sorts_after}
use Rattle.kp_json.proofs.sort.+sort.Given as goal

abbrev pub decreases-sort_of : goal.decreases-sort_of
decreases-sort_of l = 4 * depth (object (members_view l.object.now.entries)) + 2

abbrev pub decreases-sort_tagged : goal.decreases-sort_tagged
decreases-sort_tagged l = 4 * depth (object (members_view l.object.now.entries)) + 1

abbrev pub decreases-sort_application : goal.decreases-sort_application
decreases-sort_application l = 4 * depth (object (members_view l.object.now.entries))

abbrev pub decreases-sorts_of : goal.decreases-sorts_of
decreases-sorts_of l = 4 * items_depth (items_view l.values.now) + 3

abbrev pub invariant-sorts_of-loop-value : goal.invariant-sorts_of-loop-value
invariant-sorts_of-loop-value l =
    sort_items sort_reading l.key (items_view l.initial.values) ≡ sorts_after l.sorts.items l.key (drop l.value-index l.values)
