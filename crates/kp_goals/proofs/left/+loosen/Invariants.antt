use Rattle.std.proofs.Common.{◌≡◌, map, take}
use Rattle.kp_rules.specs.Skeletons.{skeleton_view}
use Rattle.kp_goals.specs.Loosened.{loosened}
use Rattle.kp_goals.proofs.left.+loosen.Given as goal

abbrev pub invariant-all_loosened-loop-skeleton : goal.invariant-all_loosened-loop-skeleton
invariant-all_loosened-loop-skeleton l = map skeleton_view l.made.items ≡ map (λ k. loosened (skeleton_view k)) (take l.skeleton-index l.skeletons)
