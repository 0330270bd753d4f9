use Rattle.std.proofs.Common.{map, drop}
use Rattle.std.specs.List.{AllByRecursion}
use Rattle.kp_signature.specs.View.{signature_view}
use Rattle.kp_case_laws.specs.Parts.{StatePart}
use Rattle.kp_case_laws.specs.Courses.{IsSortedEquality}
use Rattle.kp_unify.specs.Views.{equality_view}
use Rattle.kp_unify.specs.Way.{IsPlacedEquality}
use Rattle.kp_unify.proofs.meeting.are_placed.Given as goal

abbrev pub invariant-loop-equality : goal.invariant-loop-equality
invariant-loop-equality l =
    (p : StatePart) → AllByRecursion (IsSortedEquality (signature_view l.signature) p) (map equality_view l.equalities) → AllByRecursion (IsPlacedEquality (signature_view l.signature)) (map equality_view (drop l.equality-index l.equalities)) →
    AllByRecursion (IsPlacedEquality (signature_view l.signature)) (map equality_view l.equalities)
