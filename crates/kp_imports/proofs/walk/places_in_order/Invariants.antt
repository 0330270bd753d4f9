use Rattle.std.proofs.Common.{◌≡◌, Some, length}
use Rattle.kp_kore.specs.Syntax.{Text}
use Rattle.kp_signature.specs.Names.{Indexes, first_place}
use Rattle.kp_imports.specs.Names.{module_names}
use Rattle.kp_imports.specs.Walks.{IsWithin, IsWalkOf, work_left}
use Rattle.kp_imports.proofs.walk.places_in_order.Given as goal

abbrev pub invariant-loop-walk : goal.invariant-loop-walk
invariant-loop-walk l =
    IsWithin l.walk
    × (length l.walk.marks.items ≡ length l.modules)
    × ((main : Text) → Indexes (module_names l.modules) l.places → first_place main (module_names l.modules) ≡ Some l.start → IsWalkOf l.modules main l.walk)

abbrev pub decreases-loop-walk : goal.decreases-loop-walk
decreases-loop-walk l = work_left l.walk
