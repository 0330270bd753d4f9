use Rattle.std.proofs.Common.{[]}
use Rattle.kp_signature.specs.Order.{IsGraphOf}
use Rattle.kp_signature.proofs.graph.SortGraph.add_sorts.Given as goal

abbrev pub invariant-loop-place : goal.invariant-loop-place
invariant-loop-place l = IsGraphOf [] l.fn.self → IsGraphOf [] l.self
