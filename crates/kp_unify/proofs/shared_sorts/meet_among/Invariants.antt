use Rattle.std.proofs.Common.{◌≡◌, map, drop}
use Rattle.std.specs.List.{find}
use Rattle.kp_kore.specs.View.{sort_view}
use Rattle.kp_signature.specs.Pairs.{subsort_view}
use Rattle.kp_signature.specs.View.{signature_view}
use Rattle.kp_unify.specs.Heads.{is_meet}
use Rattle.kp_unify.proofs.shared_sorts.meet_among.Given as goal

abbrev pub invariant-loop-pair : goal.invariant-loop-pair
invariant-loop-pair l =
    let test = is_meet (signature_view l.signature) (sort_view l.first) (sort_view l.second) in
    find test (map (λ p. p.0) (map subsort_view (drop l.pair-index l.pairs))) ≡ find test (map (λ p. p.0) (map subsort_view l.pairs))
