use Rattle.std.proofs.Common.{◌≡◌, ℕ}
use Rattle.kp_kore.specs.Value.{Value}
use Rattle.kp_overlap.specs.Labels.{Follows}
use Rattle.kp_overlap.proofs.labels.top_of.Given as goal

abbrev pub invariant-loop-step : goal.invariant-loop-step
invariant-loop-step l = (a : ℕ → Value) → Follows a l.parents → a l.place ≡ a l.at
