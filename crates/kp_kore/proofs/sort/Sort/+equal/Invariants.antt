use Rattle.std.proofs.Common.{◌≡◌, map, take}
use Rattle.kp_kore.specs.View.{sort_view}
use Rattle.kp_kore.proofs.sort.Sort.+equal.Given as goal

abbrev pub invariant-all_equal-loop-i : goal.invariant-all_equal-loop-i
invariant-all_equal-loop-i l = map sort_view (take l.i l.sorts) ≡ map sort_view (take l.i l.others)
