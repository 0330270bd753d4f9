use Rattle.std.proofs.Common.{◌^◌, ◌-◌, take}
use Rattle.kp_signature.specs.Edges.{edges_of}
use Rattle.kp_signature.proofs.EdgeLemmas.{Closing}
use Rattle.kp_signature.proofs.edges.close.Given as goal

abbrev pub invariant-loop-next : goal.invariant-loop-next
invariant-loop-next l = Closing (edges_of l.edges) l.fn.found.keys (take l.next l.found.keys) l.found.keys

abbrev pub decreases-loop-next : goal.decreases-loop-next
decreases-loop-next l = 2 ^ 64 - l.next
