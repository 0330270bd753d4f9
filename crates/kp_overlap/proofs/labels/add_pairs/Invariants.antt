use Rattle.std.proofs.Common.{◌≡◌, ℕ}
use Rattle.kp_kore.specs.Value.{Value}
use Rattle.kp_overlap.specs.Graphs.{values_at}
use Rattle.kp_overlap.specs.Joined.{AreOne}
use Rattle.kp_overlap.proofs.labels.add_pairs.Given as goal

abbrev pub invariant-loop-i : goal.invariant-loop-i
invariant-loop-i l = (a : ℕ → Value) → values_at a l.members ≡ values_at a l.others → AreOne a l.initial.waiting.items → AreOne a l.waiting.items
