use Rattle.std.proofs.Common.{◌≡◌, ◌+◌, ◌*◌, map, take}
use Rattle.kp_kore.specs.Parts.{nesting, most_nesting}
use Rattle.kp_kore.specs.View.{view, patterns_view}
use Rattle.kp_kore.proofs.pattern.Pattern.+equal.Given as goal

abbrev pub invariant-all_equal-loop-i : goal.invariant-all_equal-loop-i
invariant-all_equal-loop-i l = map view (take l.i l.patterns) ≡ map view (take l.i l.others)

abbrev pub decreases-equal : goal.decreases-equal
decreases-equal l = 2 * nesting (view l.self.now)

abbrev pub decreases-all_equal : goal.decreases-all_equal
decreases-all_equal l = 2 * most_nesting (patterns_view l.patterns.now) + 1
