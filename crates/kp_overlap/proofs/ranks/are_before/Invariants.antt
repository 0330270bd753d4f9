use Rattle.std.proofs.Common.{ℕ, ◌<◌, get_or}
use Rattle.kp_overlap.specs.Ranked.{IsBefore}
use Rattle.kp_overlap.proofs.ranks.are_before.Given as goal

abbrev pub invariant-loop-member : goal.invariant-loop-member
invariant-loop-member l = (j : ℕ) → j < l.member-index → IsBefore l.labels l.ranks l.rank (get_or l.members j 0)
