use Rattle.std.proofs.Common.{◌≡◌, length}
use Rattle.kp_signature.specs.Edges.{edges_of}
use Rattle.kp_signature.specs.Spans.{IsSpread}
use Rattle.kp_signature.proofs.closures.closures.Given as goal

abbrev pub invariant-loop-number : goal.invariant-loop-number
invariant-loop-number l = (length l.spans.items ≡ l.number) × IsSpread (edges_of l.edges) l.spans.items
