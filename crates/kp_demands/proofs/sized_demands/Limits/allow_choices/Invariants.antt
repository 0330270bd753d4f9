use Rattle.std.proofs.Common.{take, map}
use Rattle.std.specs.List.{AllByRecursion}
use Rattle.kp_demands.specs.Demands.{Sizes, IsSized}
use Rattle.kp_demands.specs.Tabled.{AreLimitsOf}
use Rattle.kp_demands.proofs.sized_demands.Limits.allow_choices.Given as goal

abbrev pub invariant-loop-ways : goal.invariant-loop-ways
invariant-loop-ways l = (s : Sizes) → AreLimitsOf s l.self → AllByRecursion (λ c. AllByRecursion (AllByRecursion (IsSized s)) (map (λ w. w.items) c.items)) (take l.ways-index l.choices)
