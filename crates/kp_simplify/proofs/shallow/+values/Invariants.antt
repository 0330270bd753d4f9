use Rattle.std.proofs.Common.{◌≡◌, drop, map}
use Rattle.kp_ground.specs.View.{value_view, values_of}
use Rattle.kp_simplify.specs.Levels.{are_shallow_values}
use Rattle.kp_simplify.proofs.shallow.+values.Given as goal

-- those that are left are shallow where all are
abbrev pub invariant-are_shallow_values-loop-value : goal.invariant-are_shallow_values-loop-value
invariant-are_shallow_values-loop-value l =
    are_shallow_values (values_of (map value_view (drop l.value-index l.values))) l.levels ≡ are_shallow_values (values_of (map value_view l.values)) l.levels
