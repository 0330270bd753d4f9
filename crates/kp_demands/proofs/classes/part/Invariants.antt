use Rattle.std.proofs.Common.{◌≡◌, ◌<◌, ℕ}
use Rattle.kp_demands.specs.Classes.{root_in}
use Rattle.kp_demands.proofs.classes.part.Given as goal

abbrev pub invariant-loop-x : goal.invariant-loop-x
invariant-loop-x l = (y : ℕ) → y < l.x → root_in l.roots y ≡ y
