use Rattle.std.proofs.Common.{◌≡◌, ℕ, vec_len}
use Rattle.kp_kore.specs.Value.{Value}
use Rattle.kp_overlap.specs.Labels.{Follows}
use Rattle.kp_overlap.proofs.labels.tops.Given as goal

abbrev pub invariant-loop-place : goal.invariant-loop-place
invariant-loop-place l = (vec_len l.labels ≡ l.place) × ((a : ℕ → Value) → Follows a l.parents → Follows a l.labels.items)
