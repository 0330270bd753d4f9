use Rattle.std.proofs.Common.{◌≡◌, ◌+◌, ◌*◌, drop}
use Rattle.serde_json.specs.View.{items_view}
use Rattle.kp_json.specs.Faults.{pattern_items, pattern_within}
use Rattle.kp_json.proofs.Patterns.{patterns_after}
use Rattle.kp_json.proofs.pattern.+pattern.Given as goal

abbrev pub decreases-pattern_at : goal.decreases-pattern_at
decreases-pattern_at l = 8 * l.levels

abbrev pub decreases-patterns_of : goal.decreases-patterns_of
decreases-patterns_of l = 8 * l.below + 1

abbrev pub decreases-boxed : goal.decreases-boxed
decreases-boxed l = 8 * l.below + 1

abbrev pub decreases-sort_and_pair : goal.decreases-sort_and_pair
decreases-sort_and_pair l = 8 * l.below + 1

abbrev pub decreases-sort_and_list : goal.decreases-sort_and_list
decreases-sort_and_list l = 8 * l.below + 2

abbrev pub decreases-sort_and_members : goal.decreases-sort_and_members
decreases-sort_and_members l = 8 * l.below + 3

abbrev pub decreases-quantified : goal.decreases-quantified
decreases-quantified l = 8 * l.below + 2

abbrev pub decreases-bracketed : goal.decreases-bracketed
decreases-bracketed l = 8 * l.below + 2

abbrev pub decreases-connected : goal.decreases-connected
decreases-connected l = 8 * l.below + 2

abbrev pub decreases-compared : goal.decreases-compared
decreases-compared l = 8 * l.below + 2

abbrev pub decreases-double_tagged : goal.decreases-double_tagged
decreases-double_tagged l = 8 * l.below + 3

abbrev pub decreases-single_tagged : goal.decreases-single_tagged
decreases-single_tagged l = 8 * l.below + 4

abbrev pub decreases-listed_tagged : goal.decreases-listed_tagged
decreases-listed_tagged l = 8 * l.below + 5

abbrev pub decreases-pattern_tagged : goal.decreases-pattern_tagged
decreases-pattern_tagged l = 8 * l.below + 6

abbrev pub invariant-patterns_of-loop-value : goal.invariant-patterns_of-loop-value
invariant-patterns_of-loop-value l =
    pattern_items (pattern_within l.below) l.key (items_view l.initial.values) ≡ patterns_after (pattern_within l.below) l.patterns.items l.key (drop l.value-index l.values)
