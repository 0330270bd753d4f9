use Rattle.std.proofs.Common.{◌<◌, ℕ, get_or, None}
use Rattle.kp_diff.specs.Bounds.{IsBelow}
use Rattle.kp_diff.proofs.weight.is_row_below.Given as goal

abbrev pub invariant-loop-bound : goal.invariant-loop-bound
invariant-loop-bound l = (y : ℕ) → y < l.bound-index → IsBelow l.fn.limit (get_or l.row y None)
