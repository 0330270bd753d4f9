use Rattle.std.proofs.Common.{◌≡◌, ◌↔◌, ℕ, take, length}
use Rattle.std.specs.List.{AllByRecursion}
use Rattle.kp_demands.specs.Demands.{MeetsSame}
use Rattle.kp_demands.specs.Classes.{HaveRoots, AreRoots}
use Rattle.kp_demands.proofs.classes.equate.Given as goal

abbrev pub invariant-loop-demand : goal.invariant-loop-demand
invariant-loop-demand l = record {
  long : length l.roots ≡ length l.fn.roots;
  roots : AreRoots l.fixed l.roots;
  says : (classes : ℕ → ℕ) → HaveRoots l.roots classes ↔ AllByRecursion (MeetsSame classes) (take l.demand-index l.demands);
}
