use Rattle.std.proofs.Common.{ℕ, ◌<◌, get_or}
use Rattle.kp_overlap.specs.Ranked.{HasLabelRank}
use Rattle.kp_overlap.proofs.ranks.waits.Given as goal

abbrev pub invariant-loop-member : goal.invariant-loop-member
invariant-loop-member l = (j : ℕ) → j < l.member-index → (p : ℕ) × HasLabelRank l.labels l.ranks (get_or l.members j 0) p
