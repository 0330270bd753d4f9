use Rattle.std.proofs.Common.{◌≡◌, map, drop}
use Rattle.std.specs.List.{list_any}
use Rattle.kp_kore.specs.Signature.{has_only_numbers}
use Rattle.kp_signature.specs.Pairs.{subsort_view}
use Rattle.kp_signature.specs.View.{signature_view}
use Rattle.kp_step.proofs.counted_variables.some_above.Given as goal

-- none of those passed so far has
abbrev pub invariant-loop-pair : goal.invariant-loop-pair
invariant-loop-pair l =
    let has = has_only_numbers (signature_view l.signature) in
    list_any (λ p. has p.1) (map subsort_view (drop l.pair-index l.pairs)) ≡ list_any (λ p. has p.1) (map subsort_view l.pairs)
