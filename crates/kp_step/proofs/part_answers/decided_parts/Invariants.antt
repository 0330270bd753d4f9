use Rattle.std.proofs.Common.{List, ◌++◌}
use Rattle.std.specs.List.{AllByRecursion, Contains}
use Rattle.kp_kore.specs.Syntax.{Text}
use Rattle.kp_unify.specs.Narrowed.{NumberedPart}
use Rattle.kp_unify.specs.Views.{signature_of}
use Rattle.kp_step.specs.ReadyParts.{IsReadyPart}
use Rattle.kp_step.specs.Remainders.{AreKept}
use Rattle.kp_step.specs.Views.{numbered_views}
use Rattle.kp_step.proofs.part_answers.decided_parts.Given as goal

-- whichever of those to come are kept, with those that were found they are what is kept of all
abbrev pub invariant-loop-part : goal.invariant-loop-part
invariant-loop-part l =
    (used : List Text) → let g = signature_of l.setting in let all = numbered_views l.fn.parts.items in let rest = numbered_views l.part-iterator.rest.items in
    AllByRecursion (IsReadyPart g used) all → AllByRecursion (IsReadyPart g used) rest × AllByRecursion (Contains all) rest × ((ks : List NumberedPart) → AreKept g rest ks → AreKept g all (numbered_views l.found.items ++ ks))
