use Rattle.std.proofs.Common.{◌≡◌, map, take}
use Rattle.kp_ground.specs.View.{value_view}
use Rattle.kp_ground.proofs.value.Value.+equal.Given as goal

abbrev pub invariant-all_equal-loop-i : goal.invariant-all_equal-loop-i
invariant-all_equal-loop-i l = map value_view (take l.i l.values) ≡ map value_view (take l.i l.others)
