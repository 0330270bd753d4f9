use Rattle.std.proofs.Common.{◌≡◌, List, map, true}
use Rattle.kp_kore.specs.Signature.{KoreSignature}
use Rattle.kp_kore.specs.Syntax.{Text}
use Rattle.kp_kore.specs.Instance.{Valuation}
use Rattle.kp_ground.specs.Slots.{is_numbered, joined, left_places}
use Rattle.kp_run.specs.View.{AreDepthsUnder, AreDepthsOfLefts}
use Rattle.kp_run.proofs.Slotted.{IsBoundSoFar}
use Rattle.kp_run.proofs.binding_depths.+bound.Given as goal

abbrev pub invariant-bound_with_all-loop-i : goal.invariant-bound_with_all-loop-i
invariant-bound_with_all-loop-i l = (g : KoreSignature) (v : Valuation) (xs : List Text) → AreDepthsUnder g v xs l.initial.bound.items → is_numbered xs (joined (map left_places l.lefts)) ≡ true →
    AreDepthsOfLefts g v l.lefts l.parts → IsBoundSoFar g v xs l.i l.lefts l.bound.items
