use Rattle.std.proofs.Common.{◌≡◌, ◌+◌, ◌<◌, List, length, take}
use Rattle.std.specs.List.{AllByRecursion}
use Rattle.kp_kore.specs.Syntax.{Text}
use Rattle.kp_kore.specs.declared.sentence.Module.{Module}
use Rattle.kp_imports.specs.Walks.{unseen_in, import_names, AreNoted, IsNameNoted, IsReachedPlace, NotedMore, Stands}
use Rattle.kp_imports.proofs.unknown.note_imports.Given as goal

abbrev pub invariant-loop-i : goal.invariant-loop-i
invariant-loop-i l =
    (length l.marks.items ≡ length l.fn.marks.items)
    × AllByRecursion (λ p. p < length l.fn.marks.items) l.found.items
    × (unseen_in l.marks.items + length l.found.items ≡ unseen_in l.fn.marks.items + length l.fn.found.items)
    × ((rows : List Module) (main : Text) → Stands rows main l.places l.sentences → AllByRecursion (IsReachedPlace rows main) l.fn.found.items → AllByRecursion (IsReachedPlace rows main) l.found.items)
    × (AreNoted l.fn.marks.items l.fn.found.items → NotedMore l.marks.items l.fn.found.items l.found.items × AllByRecursion (IsNameNoted l.places l.found.items) (import_names (take l.i l.sentences)))
