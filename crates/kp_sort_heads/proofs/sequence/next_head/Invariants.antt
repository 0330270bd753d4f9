use Rattle.std.proofs.Common.{◌≡◌, length}
use Rattle.kp_kore.specs.View.{sort_view}
use Rattle.kp_signature.specs.View.{signature_view}
use Rattle.kp_sort_heads.specs.Remaining.{remaining_possible, remaining_heads}
use Rattle.kp_sort_heads.proofs.sequence.next_head.Given as goal

-- what was passed is no head of the sort
abbrev pub invariant-loop-head : goal.invariant-loop-head
invariant-loop-head l =
    remaining_heads (signature_view l.signature) (sort_view l.sort) l.fn.left
    ≡ remaining_heads (signature_view l.signature) (sort_view l.sort) l.left

abbrev pub decreases-loop-head : goal.decreases-loop-head
decreases-loop-head l = length (remaining_possible (sort_view l.sort) l.left)
