use Rattle.std.proofs.Common.{◌≡◌, ◌++◌, map, drop, string_bytes}
use Rattle.kp_literals.specs.Bounds.{difference_view}
use Rattle.kp_limits.specs.Told.{names_in_bounds}
use Rattle.kp_limits.proofs.weight.names_of.Given as goal

abbrev pub invariant-loop-bound : goal.invariant-loop-bound
invariant-loop-bound l =
    map (λ n. string_bytes n.now) l.names.items ++ names_in_bounds (map difference_view (drop l.bound-index l.bounds))
    ≡ names_in_bounds (map difference_view l.bounds)
