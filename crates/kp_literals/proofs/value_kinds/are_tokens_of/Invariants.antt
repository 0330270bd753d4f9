use Rattle.std.proofs.Common.{◌≡◌, map, drop}
use Rattle.kp_kore.specs.View.{sort_view}
use Rattle.kp_signature.specs.Pairs.{subsort_view}
use Rattle.kp_signature.specs.View.{signature_view}
use Rattle.kp_literals.specs.Kinds.{lower_sorts, tokens_are}
use Rattle.kp_literals.proofs.value_kinds.are_tokens_of.Given as goal

abbrev pub invariant-loop-pair : goal.invariant-loop-pair
invariant-loop-pair l =
    tokens_are (signature_view l.signature) (sort_view l.sort) (sort_view l.tokens) (lower_sorts (map subsort_view (drop l.pair-index l.pairs)))
    ≡ tokens_are (signature_view l.signature) (sort_view l.sort) (sort_view l.tokens) (lower_sorts (map subsort_view l.pairs))
