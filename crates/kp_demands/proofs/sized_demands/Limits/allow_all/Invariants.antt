use Rattle.std.proofs.Common.{take}
use Rattle.std.specs.List.{AllByRecursion}
use Rattle.kp_demands.specs.Demands.{Sizes, IsSized}
use Rattle.kp_demands.specs.Tabled.{AreLimitsOf}
use Rattle.kp_demands.proofs.sized_demands.Limits.allow_all.Given as goal

abbrev pub invariant-loop-demand : goal.invariant-loop-demand
invariant-loop-demand l = (s : Sizes) → AreLimitsOf s l.self → AllByRecursion (IsSized s) (take l.demand-index l.demands)
