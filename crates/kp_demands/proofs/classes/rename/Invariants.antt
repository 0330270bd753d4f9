use Rattle.std.proofs.Common.{◌≡◌, ◌<◌, ◌≤◌, ℕ}
use Rattle.kp_demands.specs.Classes.{root_in, renamed}
use Rattle.kp_demands.proofs.classes.rename.Given as goal

abbrev pub invariant-loop-x : goal.invariant-loop-x
invariant-loop-x l = record {
  done : (y : ℕ) → y < l.x → root_in l.roots y ≡ renamed l.from l.to (root_in l.fn.roots y);
  left : (y : ℕ) → l.x ≤ y → root_in l.roots y ≡ root_in l.fn.roots y;
}
