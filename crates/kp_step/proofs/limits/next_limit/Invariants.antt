use Rattle.std.proofs.Common.{map, drop}
use Rattle.std.specs.List.{AllByRecursion}
use Rattle.kp_unify.specs.Views.{signature_of}
use Rattle.kp_step.specs.Limits.{TermLimit, PassesNone, IsFirstPassed}
use Rattle.kp_step.specs.Views.{next_told}
use Rattle.kp_step.proofs.limits.next_limit.Given as goal

-- what holds of those to come holds of all
abbrev pub invariant-loop-next : goal.invariant-loop-next
invariant-loop-next l =
    let g = signature_of l.setting in
    (AllByRecursion (λ x. PassesNone g x) (map next_told (drop l.next-index l.nexts)) → AllByRecursion (λ x. PassesNone g x) (map next_told l.nexts))
    × ((m : TermLimit) → IsFirstPassed g (map next_told (drop l.next-index l.nexts)) m → IsFirstPassed g (map next_told l.nexts) m)
