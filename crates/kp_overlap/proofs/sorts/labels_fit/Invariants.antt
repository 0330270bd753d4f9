use Rattle.std.proofs.Common.{map}
use Rattle.kp_signature.specs.Edges.{edges_of}
use Rattle.kp_signature.specs.View.{signature_view}
use Rattle.kp_overlap.specs.Views.{placed_view}
use Rattle.kp_overlap.specs.Sorted.{FitBelow}
use Rattle.kp_overlap.proofs.sorts.labels_fit.Given as goal

abbrev pub invariant-loop-label : goal.invariant-loop-label
invariant-loop-label l = FitBelow (signature_view l.signature) (map placed_view l.sorts) l.holders (edges_of l.groups) l.label
