use Rattle.std.proofs.Common.{◌≡◌, ℕ, ℤ, take}
use Rattle.std.specs.List.{AllByRecursion}
use Rattle.kp_diff.specs.Bounds.{Meets}
use Rattle.kp_diff.specs.Rows.{bounds_of}
use Rattle.kp_demands.specs.Demands.{MeetsBound}
use Rattle.kp_demands.specs.Known.{HasRoom}
use Rattle.kp_demands.proofs.known_bounds.take_all.Given as goal

abbrev pub invariant-loop-demand : goal.invariant-loop-demand
invariant-loop-demand l = record {
  size : l.known.matrix.size ≡ l.fn.known.matrix.size;
  room : HasRoom l.known.room l.known.matrix;
  met : (values : ℕ → ℤ) → Meets l.fn.known.matrix.size (bounds_of l.fn.known.matrix) values → AllByRecursion (MeetsBound values) (take l.demand-index l.demands) → Meets l.fn.known.matrix.size (bounds_of l.known.matrix) values;
}
