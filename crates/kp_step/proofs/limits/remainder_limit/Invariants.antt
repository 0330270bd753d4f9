use Rattle.std.proofs.Common.{map, drop}
use Rattle.std.specs.List.{AllByRecursion}
use Rattle.kp_unify.specs.Views.{signature_of}
use Rattle.kp_step.specs.Limits.{TermLimit, PassesNone, IsFirstPassed}
use Rattle.kp_step.specs.Views.{part_told}
use Rattle.kp_step.proofs.limits.remainder_limit.Given as goal

-- what holds of those to come holds of all
abbrev pub invariant-loop-part : goal.invariant-loop-part
invariant-loop-part l =
    let g = signature_of l.setting in
    (AllByRecursion (λ x. PassesNone g x) (map part_told (drop l.part-index l.remainder)) → AllByRecursion (λ x. PassesNone g x) (map part_told l.remainder))
    × ((m : TermLimit) → IsFirstPassed g (map part_told (drop l.part-index l.remainder)) m → IsFirstPassed g (map part_told l.remainder) m)
