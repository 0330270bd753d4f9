use Rattle.std.proofs.Common.{◌≡◌, List, take, true}
use Rattle.std.specs.List.{list_all}
use Rattle.kp_kore.specs.Syntax.{Text}
use Rattle.kp_signature.specs.View.{signature_view}
use Rattle.kp_kore.specs.Instance.{Valuation}
use Rattle.kp_ground.specs.Slots.{term_reads}
use Rattle.kp_run.specs.View.{AreDepthsOfAll, AreDepthsUnder, AreTermValues}
use Rattle.kp_run.proofs.right_side.+right.Given as goal

abbrev pub invariant-all_right_depths-loop-i : goal.invariant-all_right_depths-loop-i
invariant-all_right_depths-loop-i l = (v : Valuation) (xs : List Text) → AreDepthsUnder (signature_view l.signature) v xs l.bound → list_all (term_reads xs) l.terms ≡ true →
    AreTermValues v l.terms l.values → AreDepthsOfAll (signature_view l.signature) (take l.i l.values) l.parts.items
