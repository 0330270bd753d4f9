use Rattle.std.proofs.Common.{get_or, None}
use Rattle.kp_diff.specs.Rows.{IsLeast}
use Rattle.kp_diff.proofs.valuation.least_of.Given as goal

abbrev pub invariant-loop-bound : goal.invariant-loop-bound
invariant-loop-bound l = IsLeast l.bound-index (λ y. get_or l.row y None) l.least
