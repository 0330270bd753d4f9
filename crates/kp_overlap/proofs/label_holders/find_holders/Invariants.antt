use Rattle.std.proofs.Common.{map}
use Rattle.kp_overlap.specs.Held.{AreShapes, AreHoldersBelow}
use Rattle.kp_overlap.specs.Views.{shape_view}
use Rattle.kp_overlap.proofs.label_holders.find_holders.Given as goal

abbrev pub invariant-loop-place : goal.invariant-loop-place
invariant-loop-place l = AreShapes (map shape_view l.shapes) l.labels → AreHoldersBelow l.place (map shape_view l.shapes) l.labels l.holders.items
