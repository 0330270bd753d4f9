use Rattle.std.proofs.Common.{◌≡◌, ◌++◌, map}
use Rattle.kp_kore.specs.View.{view}
use Rattle.kp_outward.specs.View.{patterns_in}
use Rattle.kp_outward.proofs.joined.add_patterns.Given as goal

abbrev pub invariant-loop-one : goal.invariant-loop-one
invariant-loop-one l = map view l.found.items ≡ map view l.fn.found.items ++ patterns_in l.yielded
