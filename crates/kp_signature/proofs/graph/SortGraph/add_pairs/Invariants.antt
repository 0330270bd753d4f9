use Rattle.std.proofs.Common.{[], map, take}
use Rattle.kp_signature.specs.Order.{IsGraphOf}
use Rattle.kp_signature.specs.Pairs.{subsort_view}
use Rattle.kp_signature.proofs.graph.SortGraph.add_pairs.Given as goal

abbrev pub invariant-loop-pair : goal.invariant-loop-pair
invariant-loop-pair l = IsGraphOf [] l.fn.self → IsGraphOf (map subsort_view (take l.pair-index l.pairs)) l.self
