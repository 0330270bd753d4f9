use Rattle.std.proofs.Common.{◌↔◌, ℕ, Bool, take}
use Rattle.std.specs.List.{AllByRecursion}
use Rattle.kp_demands.specs.Demands.{MeetsTruth}
use Rattle.kp_demands.specs.Truths.{HaveTruths}
use Rattle.kp_demands.proofs.truths.agree.Given as goal

abbrev pub invariant-loop-demand : goal.invariant-loop-demand
invariant-loop-demand l = (truths : ℕ → Bool) → HaveTruths l.table truths ↔ AllByRecursion (MeetsTruth truths) (take l.demand-index l.demands)
