use Rattle.std.proofs.Common.{◌≡◌, map, drop}
use Rattle.kp_kore.specs.View.{sort_view}
use Rattle.kp_signature.specs.Pairs.{subsort_view}
use Rattle.kp_signature.specs.View.{signature_view}
use Rattle.kp_literals.specs.Kinds.{lower_sorts, no_tokens_among}
use Rattle.kp_literals.proofs.value_kinds.has_no_tokens.Given as goal

abbrev pub invariant-loop-pair : goal.invariant-loop-pair
invariant-loop-pair l =
    no_tokens_among (signature_view l.signature) (sort_view l.sort) (lower_sorts (map subsort_view (drop l.pair-index l.pairs)))
    ≡ no_tokens_among (signature_view l.signature) (sort_view l.sort) (lower_sorts (map subsort_view l.pairs))
