use Rattle.std.proofs.Common.{◌≡◌, length}
use Rattle.kp_kore.specs.View.{sort_view}
use Rattle.kp_signature.specs.View.{signature_view}
use Rattle.kp_sort_heads.specs.Views.{left_of}
use Rattle.kp_unify.proofs.SharedLemmas.{IsSearched}
use Rattle.kp_unify.proofs.shared_sorts.share_values.Given as goal

abbrev pub invariant-loop-head : goal.invariant-loop-head
invariant-loop-head l = IsSearched (signature_view l.signature) (sort_view l.first) (sort_view l.second) (left_of l.left) × (l.left.signature.now ≡ l.signature)

abbrev pub decreases-loop-head : goal.decreases-loop-head
decreases-loop-head l = length (left_of l.left)
