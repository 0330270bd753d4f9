use Rattle.std.proofs.Common.{ℕ, ◌<◌}
use Rattle.kp_overlap.specs.Joined.{IsOwn}
use Rattle.kp_overlap.proofs.labels.are_own.Given as goal

abbrev pub invariant-loop-place : goal.invariant-loop-place
invariant-loop-place l = (n : ℕ) → n < l.place → IsOwn l.labels n
