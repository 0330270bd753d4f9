use Rattle.std.proofs.Common.{ℕ, ◌<◌}
use Rattle.kp_overlap.specs.Ranked.{HasRank}
use Rattle.kp_overlap.proofs.ranks.has_unranked.Given as goal

abbrev pub invariant-loop-label : goal.invariant-loop-label
invariant-loop-label l = (j : ℕ) → j < l.label → HasRank l.ranks j
