use Rattle.std.proofs.Common.{◌↔◌, take}
use Rattle.std.specs.List.{AllByRecursion}
use Rattle.kp_demands.specs.Demands.{Assignment, HasWay, Sizes}
use Rattle.kp_signature.specs.View.{signature_view}
use Rattle.kp_clause_demands.specs.Ways as spec
use Rattle.kp_clause_demands.specs.Ways.{IsAskedMet, IsAskedSized, AreWaysSized}
use Rattle.kp_clause_demands.proofs.clause_demands.asked_by.Given as goal

abbrev pub invariant-loop-clause : goal.invariant-loop-clause
invariant-loop-clause l =
    ((a : Assignment) → IsAskedMet a l.asked ↔ AllByRecursion (λ c. HasWay a (spec.clause_ways (signature_view l.signature) l.unknowns c.items)) (take l.clause-index l.clauses))
    × ((s : Sizes) → IsAskedSized s l.asked ↔ AllByRecursion (λ c. AreWaysSized s (spec.clause_ways (signature_view l.signature) l.unknowns c.items)) (take l.clause-index l.clauses))
