use Rattle.std.proofs.Common.{◌<◌, ℕ, suc, ◌+ℤ◌}
use Rattle.kp_diff.specs.Rows.{rows_of, bound_in, value_in, IsLeast}
use Rattle.kp_diff.proofs.valuation.write_values.Given as goal

abbrev pub invariant-loop-x : goal.invariant-loop-x
invariant-loop-x l = (x : ℕ) → x < l.x → IsLeast (suc l.fn.size) (bound_in (rows_of l.fn.rows) x) (value_in l.values x +ℤ l.first)
