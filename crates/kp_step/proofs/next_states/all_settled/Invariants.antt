use Rattle.std.proofs.Common.{List, ◌++◌}
use Rattle.std.specs.List.{AllByRecursion, AllZip}
use Rattle.kp_kore.specs.Syntax.{Text}
use Rattle.kp_unify.specs.Narrowed.{NumberedPart}
use Rattle.kp_unify.specs.Views.{signature_of}
use Rattle.kp_step.specs.ReadyParts.{IsReadyPart}
use Rattle.kp_step.specs.Follows.{IsSolvedPart}
use Rattle.kp_step.specs.Views.{numbered_views}
use Rattle.kp_step.proofs.next_states.all_settled.Given as goal

-- whatever those to come are solved to, with those that were solved they are what all are solved to
abbrev pub invariant-loop-part : goal.invariant-loop-part
invariant-loop-part l =
    (used : List Text) → let g = signature_of l.setting in let all = numbered_views l.fn.parts.items in let rest = numbered_views l.part-iterator.rest.items in
    AllByRecursion (IsReadyPart g used) all → AllByRecursion (IsReadyPart g used) rest × ((ks : List NumberedPart) → AllZip (IsSolvedPart g used) rest ks → AllZip (IsSolvedPart g used) all (numbered_views l.found.items ++ ks))
