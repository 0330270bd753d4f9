use Rattle.std.proofs.Common.{map, take}
use Rattle.std.specs.List.{AllByRecursion}
use Rattle.kp_signature.specs.View.{signature_view}
use Rattle.kp_overlap.specs.Views.{placed_view, shape_view}
use Rattle.kp_overlap.specs.Sorted.{Fits}
use Rattle.kp_overlap.proofs.sorts.all_fit.Given as goal

abbrev pub invariant-loop-asked : goal.invariant-loop-asked
invariant-loop-asked l = AllByRecursion (Fits (signature_view l.signature) (map shape_view l.shapes) l.labels l.holders) (map placed_view (take l.asked-index l.sorts))
