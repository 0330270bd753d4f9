use Rattle.std.proofs.Common.{◌≡◌, ◌+◌, ◌-◌, ◌<◌, Some, length, take, Contains}
use Rattle.std.specs.List.{AllByRecursion}
use Rattle.kp_kore.specs.Syntax.{Text}
use Rattle.kp_signature.specs.Names.{Indexes, first_place}
use Rattle.kp_imports.specs.Names.{module_names}
use Rattle.kp_imports.specs.Walks.{unseen_in, AreNoted, IsReachedPlace}
use Rattle.kp_imports.proofs.Noting.{AreImportsNoted}
use Rattle.kp_imports.proofs.unknown.check_imports.Given as goal

abbrev pub invariant-loop-read : goal.invariant-loop-read
invariant-loop-read l =
    (length l.marks.items ≡ length l.modules)
    × AllByRecursion (λ p. p < length l.modules) l.found.items
    × ((main : Text) → Indexes (module_names l.modules) l.places → first_place main (module_names l.modules) ≡ Some l.start → AllByRecursion (IsReachedPlace l.modules main) l.found.items)
    × AreNoted l.marks.items l.found.items
    × Contains l.found.items l.start
    × AllByRecursion (AreImportsNoted l.places l.modules l.found.items) (take l.read l.found.items)

abbrev pub decreases-loop-read : goal.decreases-loop-read
decreases-loop-read l = unseen_in l.marks.items + length l.found.items - l.read
