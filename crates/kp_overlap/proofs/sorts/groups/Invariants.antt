use Rattle.std.proofs.Common.{map}
use Rattle.kp_signature.specs.Edges.{edges_of}
use Rattle.kp_overlap.specs.Views.{placed_view}
use Rattle.kp_overlap.specs.Sorted.{AreGroupsBefore}
use Rattle.kp_overlap.proofs.sorts.groups.Given as goal

abbrev pub invariant-loop-number : goal.invariant-loop-number
invariant-loop-number l = AreGroupsBefore l.labels (map placed_view l.sorts) l.number (edges_of l.groups.items)
