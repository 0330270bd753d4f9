use Rattle.std.proofs.Common.{◌≡◌, map, length}
use Rattle.kp_kore.specs.View.{sort_view}
use Rattle.kp_signature.specs.Pairs.{subsort_view}
use Rattle.kp_signature.specs.View.{signature_view}
use Rattle.kp_literals.specs.Kinds.{lower_sorts, one_kind_of_tokens}
use Rattle.kp_literals.proofs.value_kinds.has_one_kind.Given as goal

abbrev pub invariant-loop-left : goal.invariant-loop-left
invariant-loop-left l =
    one_kind_of_tokens (signature_view l.signature) (sort_view l.sort) (lower_sorts (map subsort_view l.left))
    ≡ one_kind_of_tokens (signature_view l.signature) (sort_view l.sort) (lower_sorts (map subsort_view l.pairs))

abbrev pub decreases-loop-left : goal.decreases-loop-left
decreases-loop-left l = length l.left
