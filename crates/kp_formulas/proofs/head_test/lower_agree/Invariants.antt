use Rattle.std.proofs.Common.{◌≡◌, map, drop}
use Rattle.kp_kore.specs.Signature.{tokens}
use Rattle.kp_kore.specs.View.{sort_view}
use Rattle.kp_signature.specs.Pairs.{subsort_view}
use Rattle.kp_signature.specs.View.{signature_view}
use Rattle.kp_symbolic.specs.View.{test_view}
use Rattle.kp_formulas.specs.Answers.{all_agree}
use Rattle.kp_formulas.proofs.head_test.lower_agree.Given as goal

abbrev pub invariant-loop-pair : goal.invariant-loop-pair
invariant-loop-pair l =
    all_agree (signature_view l.signature) (sort_view l.sort) (test_view l.test) l.wanted (map tokens (map (λ p. p.0) (map subsort_view l.pairs)))
    ≡ all_agree (signature_view l.signature) (sort_view l.sort) (test_view l.test) l.wanted (map tokens (map (λ p. p.0) (map subsort_view (drop l.pair-index l.pairs))))
