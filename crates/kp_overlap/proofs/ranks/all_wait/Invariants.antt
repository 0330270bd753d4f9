use Rattle.std.proofs.Common.{ℕ, ◌<◌, map}
use Rattle.kp_overlap.specs.Ranked.{IsRankedOrWaits}
use Rattle.kp_overlap.specs.Views.{shape_view}
use Rattle.kp_overlap.proofs.ranks.all_wait.Given as goal

abbrev pub invariant-loop-label : goal.invariant-loop-label
invariant-loop-label l = (j : ℕ) → j < l.label → IsRankedOrWaits (map shape_view l.shapes) l.labels l.holders l.ranks j
