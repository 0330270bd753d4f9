use Rattle.std.proofs.Common.{◌≡◌, ◌↔◌, ℕ, ℤ, pos, take}
use Rattle.std.specs.List.{AllByRecursion}
use Rattle.kp_diff.specs.Bounds.{Meets, HaveBits}
use Rattle.kp_diff.specs.Rows.{bounds_of}
use Rattle.kp_demands.specs.Demands.{Sizes, IsSized, MeetsBound}
use Rattle.kp_demands.proofs.places.fill.Given as goal

abbrev pub invariant-loop-demand : goal.invariant-loop-demand
invariant-loop-demand l = record {
  size : l.matrix.size ≡ l.fn.matrix.size;
  met : (values : ℕ → ℤ) → values 0 ≡ pos 0 → Meets l.fn.matrix.size (bounds_of l.matrix) values ↔ AllByRecursion (MeetsBound values) (take l.demand-index l.demands);
  bits : (s : Sizes) → AllByRecursion (IsSized s) l.demands → HaveBits s.bits l.fn.matrix.size (bounds_of l.matrix);
}
