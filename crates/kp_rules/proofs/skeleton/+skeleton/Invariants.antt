use Rattle.std.proofs.Common.{◌≡◌, take}
use Rattle.std.specs.List.{AllZip}
use Rattle.kp_kore.specs.View.{view}
use Rattle.kp_signature.specs.View.{signature_view}
use Rattle.kp_rules.specs.Skeletons.{skeleton_view, StandsFor}
use Rattle.kp_rules.proofs.skeleton.+skeleton.Given as goal

abbrev pub invariant-skeleton_of_first-loop-pattern : goal.invariant-skeleton_of_first-loop-pattern
invariant-skeleton_of_first-loop-pattern l = l.pattern-index ≡ 0

abbrev pub invariant-skeletons_of-loop-pattern : goal.invariant-skeletons_of-loop-pattern
invariant-skeletons_of-loop-pattern l =
    AllZip (λ p k. StandsFor (signature_view l.signature) l.levels (view p) (skeleton_view k)) (take l.pattern-index l.patterns) l.found.items
