use Rattle.std.proofs.Common.{length}
use Rattle.kp_kore.specs.View.{sort_view}
use Rattle.kp_signature.specs.View.{signature_view}
use Rattle.kp_heads.specs.Made.{IsHeadTableOf}
use Rattle.kp_sort_heads.specs.Remaining.{remaining_heads}
use Rattle.kp_sort_heads.specs.Live.{Passed}
use Rattle.kp_sort_heads.proofs.sequence.next_live_head.Given as goal

-- no value has what was passed
abbrev pub invariant-loop-head : goal.invariant-loop-head
invariant-loop-head l = IsHeadTableOf (signature_view l.signature) l.table →
    Passed (signature_view l.signature)
    (remaining_heads (signature_view l.signature) (sort_view l.sort) l.fn.left)
    (remaining_heads (signature_view l.signature) (sort_view l.sort) l.left)

abbrev pub decreases-loop-head : goal.decreases-loop-head
decreases-loop-head l = length (remaining_heads (signature_view l.signature) (sort_view l.sort) l.left)
