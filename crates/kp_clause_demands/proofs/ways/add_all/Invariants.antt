use Rattle.std.proofs.Common.{◌≡◌, ◌++◌}
use Rattle.kp_clause_demands.specs.Ways.{items_of_ways}
use Rattle.kp_clause_demands.proofs.ways.add_all.Given as goal

abbrev pub invariant-loop-way : goal.invariant-loop-way
invariant-loop-way l = items_of_ways l.ways.items ++ items_of_ways l.way-iterator.rest.items ≡ items_of_ways l.fn.ways.items ++ items_of_ways l.fn.more.items
