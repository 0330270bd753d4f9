use Rattle.std.proofs.Common.{ℕ, ◌<◌, map}
use Rattle.kp_overlap.specs.Ranked.{IsRanked}
use Rattle.kp_overlap.specs.Views.{shape_view}
use Rattle.kp_overlap.proofs.ranks.are_ranked.Given as goal

abbrev pub invariant-loop-label : goal.invariant-loop-label
invariant-loop-label l = (j : ℕ) → j < l.label → IsRanked (map shape_view l.shapes) l.labels l.holders l.ranks j
