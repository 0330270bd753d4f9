use Rattle.std.proofs.Common.{map, take}
use Rattle.std.specs.List.{AllByRecursion}
use Rattle.kp_signature.specs.View.{signature_view}
use Rattle.kp_sort_heads.specs.Views.{head_view}
use Rattle.kp_overlap.specs.Views.{placed_view}
use Rattle.kp_overlap.specs.Sorted.{HasHeadAt}
use Rattle.kp_overlap.proofs.sorts.all_have_head.Given as goal

abbrev pub invariant-loop-number : goal.invariant-loop-number
invariant-loop-number l = AllByRecursion (HasHeadAt (signature_view l.signature) (map placed_view l.sorts) (head_view l.head)) (take l.number-index l.numbers)
