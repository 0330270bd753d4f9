use Rattle.std.proofs.Common.{◌≡◌, ◌++◌, drop}
use Rattle.kp_signature.specs.View.{signature_view}
use Rattle.kp_clause_demands.specs.Ways as spec
use Rattle.kp_clause_demands.specs.Ways.{items_of_ways}
use Rattle.kp_clause_demands.proofs.ways.clause_ways.Given as goal

abbrev pub invariant-loop-literal : goal.invariant-loop-literal
invariant-loop-literal l =
    items_of_ways l.ways.items ++ spec.clause_ways (signature_view l.signature) l.unknowns (drop l.literal-index l.clause) ≡ spec.clause_ways (signature_view l.signature) l.unknowns l.clause
