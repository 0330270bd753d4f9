use Rattle.std.proofs.Common.{map, drop}
use Rattle.kp_symbolic.specs.Weights.{largest}
use Rattle.kp_literals.specs.Bounds.{difference_view}
use Rattle.kp_literals.proofs.LengthLemmas.{Longest}
use Rattle.kp_literals.proofs.bounds.largest_length.Given as goal

abbrev pub invariant-loop-bound : goal.invariant-loop-bound
invariant-loop-bound l = Longest (largest (map difference_view l.bounds)) (largest (map difference_view (drop l.bound-index l.bounds))) l.length
