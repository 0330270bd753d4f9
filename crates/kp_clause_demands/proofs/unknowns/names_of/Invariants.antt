use Rattle.std.proofs.Common.{◌≡◌, ◌++◌, map, drop}
use Rattle.kp_literals.specs.Bounds.{difference_view}
use Rattle.kp_clause_demands.specs.Numbers.{texts, names_in_bounds}
use Rattle.kp_clause_demands.proofs.unknowns.names_of.Given as goal

abbrev pub invariant-loop-bound : goal.invariant-loop-bound
invariant-loop-bound l = texts l.names.items ++ names_in_bounds (map difference_view (drop l.bound-index l.bounds)) ≡ names_in_bounds (map difference_view l.bounds)
