use Rattle.std.proofs.Common.{◌≡◌, length}
use Rattle.std.specs.List.{list_all}
use Rattle.kp_kore.specs.Signature.{heads_of}
use Rattle.kp_kore.specs.View.{sort_view}
use Rattle.kp_signature.specs.View.{signature_view}
use Rattle.kp_sort_heads.specs.Views.{left_of}
use Rattle.kp_unify.specs.Heads.{is_common_in}
use Rattle.kp_unify.proofs.shared_sorts.has_common_heads.Given as goal

-- what was passed passes
abbrev pub invariant-loop-head : goal.invariant-loop-head
invariant-loop-head l =
    let g = signature_view l.signature in
    let test = is_common_in g (sort_view l.second) (sort_view l.third) in
    (list_all test (left_of l.left) ≡ list_all test (heads_of g (sort_view l.first))) × (l.left.signature.now ≡ l.signature)

abbrev pub decreases-loop-head : goal.decreases-loop-head
decreases-loop-head l = length (left_of l.left)
