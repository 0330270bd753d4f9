use Rattle.std.proofs.Common.{◌≡◌, map, drop}
use Rattle.kp_kore.specs.Signature.{is_boolean_sort}
use Rattle.kp_kore.specs.View.{sort_view}
use Rattle.kp_signature.specs.Pairs.{subsort_view}
use Rattle.kp_signature.specs.View.{signature_view}
use Rattle.kp_literals.specs.Kinds.{lower_sorts, some_below}
use Rattle.kp_literals.proofs.value_kinds.has_truths_among.Given as goal

abbrev pub invariant-loop-pair : goal.invariant-loop-pair
invariant-loop-pair l =
    some_below (signature_view l.signature) (sort_view l.sort) (is_boolean_sort (signature_view l.signature)) (lower_sorts (map subsort_view (drop l.pair-index l.pairs)))
    ≡ some_below (signature_view l.signature) (sort_view l.sort) (is_boolean_sort (signature_view l.signature)) (lower_sorts (map subsort_view l.pairs))
