use Rattle.std.proofs.Common.{take}
use Rattle.std.specs.List.{AllByRecursion}
use Rattle.kp_demands.specs.Demands.{MeetsApart}
use Rattle.kp_demands.specs.Classes.{root_in}
use Rattle.kp_demands.proofs.classes.are_apart.Given as goal

abbrev pub invariant-loop-demand : goal.invariant-loop-demand
invariant-loop-demand l = AllByRecursion (MeetsApart (root_in l.roots)) (take l.demand-index l.demands)
