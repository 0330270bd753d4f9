use Rattle.std.proofs.Common.{take}
use Rattle.std.specs.List.{AllByRecursion}
use Rattle.kp_demands.specs.Demands.{Sizes, IsSized}
use Rattle.kp_demands.specs.Tabled.{AreLimitsOf}
use Rattle.kp_demands.proofs.sized_demands.Limits.allow_ways.Given as goal

abbrev pub invariant-loop-way : goal.invariant-loop-way
invariant-loop-way l = (s : Sizes) → AreLimitsOf s l.self → AllByRecursion (λ w. AllByRecursion (IsSized s) w.items) (take l.way-index l.ways)
